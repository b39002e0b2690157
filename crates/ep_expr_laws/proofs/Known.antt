-- What is known of a valid form as a constant is of its kind: a value of its host, or a set over it.
use Rattle.std.proofs.Common.{◌≡◌, ℕ, ℤ, pos, negsuc, zero, suc, ◌≤◌, ◌%◌, Bool, true, false, List, [], Option, Some, None, IsTrue, length, refl, sym, ap, ◌∙◌, subst, arith}
use Rattle.std.proofs.lemmas.Bool.Decides.{nat_tests}
use Rattle.std.specs.Prelude.{if◌then◌else◌, ◌-ℤ◌, unsigned_abs}
use Rattle.ep_typed.specs.Hosts.{Host, least, greatest, is_of_host}
use Rattle.ep_typed.specs.Hosts as host
use Rattle.ep_values.specs.Operations.{Answer, Number, Fault, is_integer, decides, within, ordinal_of, unary_answer, binary_answer, step_answer}
use Rattle.ep_values.specs.Sets.{member_limit}
use Rattle.ep_values.specs.SetOperations.{set_answer}
use Rattle.ep_typed.specs.Trees as tree
use Rattle.ep_typed.specs.Trees.{Expr, Constant, Text, Read, One, Two, Short, Step, Function, IndexedValue, FieldValue, VariantValue, SetConstant, SetOf, OnSets, Card, Designator, Single, Range, Designators, no_member, next_member}
use Rattle.ep_meaning.specs.Valid.{AreDesignators, Declarations, IsDesignator, IsExpr, IsUnary, IsBinary, IsOnSets}
use Rattle.ep_meaning.specs.Valid as valid
use Rattle.ep_values.specs.declared.operations.Unary.{Unary}
use Rattle.ep_values.specs.declared.operations.Unary.TheVariants as unary
use Rattle.ep_values.specs.declared.operations.Binary.{Binary}
use Rattle.ep_values.specs.declared.operations.Binary.TheVariants as binary
use Rattle.ep_values.specs.declared.operations.SetOperation.{SetOperation}
use Rattle.ep_values.specs.declared.operations.SetOperation.TheVariants as on_sets
use Rattle.ep_values.specs.declared.operations.ShortOperation.{ShortOperation}
use Rattle.ep_values.specs.declared.run_error.TheConstants as run_error
use Rattle.ep_values.proofs.public.Sets.{few_members}
use Rattle.ep_expr_laws.specs.Agreement.{IsSetOver}
use Rattle.ep_rules.specs.Folding.{answered, as_known, folded, folded_member, folded_members, joined, members_in, number_in, one_folded, result_of, set_found, short_folded, two_folded}
use Rattle.ep_rules.specs.declared.folding.Folded.{Folded}
use Rattle.ep_rules.specs.declared.folding.Folded.TheVariants.{Known, Varies, Errs}
use Rattle.ep_rules.specs.declared.folding.KnownValue.{KnownValue}
use Rattle.ep_rules.specs.declared.folding.KnownValue.TheVariants as known_value
use Rattle.ep_expr_laws.proofs.SetsOver.{IsFound, combined-over, empty-over, range-over, single-over}

-- ---- numbers

-- a number that is known is an integer, and the one that was answered
record IsAnswer (a : Answer) (z : ℤ) : Type 0 where
  number : a ≡ Number z
  whole : IsTrue (is_integer z)

not_boolean : (x : ℤ) → IsTrue (is_of_host host.Boolean x) → IsTrue (is_of_host host.Boolean (pos 1 -ℤ x))
not_boolean (pos zero) h = refl
not_boolean (pos (suc zero)) h = refl
not_boolean (pos (suc (suc n))) h = grind (arith, nat_tests)
not_boolean (negsuc n) h = cc

odd_boolean : (n : ℕ) → IsTrue (is_of_host host.Boolean (pos (n % 2)))
odd_boolean n = grind (arith, nat_tests)

ordinal_boolean : (b : Bool) → IsTrue (is_of_host host.Boolean (ordinal_of b))
ordinal_boolean true = refl
ordinal_boolean false = refl

-- a number that is the answer
same_number : (h : Host) (w z : ℤ) → IsTrue (is_of_host h w) → ◌≡◌ {A = Answer} (Number w) (Number z) → IsTrue (is_of_host h z)
same_number h w z s e =
    let is : w ≡ z = cc in
    subst (λ x. IsTrue (is_of_host h x)) is s

within-number : (b : Bool) (h : Host) (w z : ℤ) → is_of_host h w ≡ b → (if b then Number w else Fault 14) ≡ Number z → IsTrue (is_of_host h z)
within-number true h w z s e = same_number h w z s e
within-number false h w z s e = cc

bounded-number : (h : Host) (low high w z : ℤ) → low ≡ least h → high ≡ greatest h → within run_error.SUCCESSOR low high w ≡ Number z → IsTrue (is_of_host h z)
bounded-number h low high w z l g e =
    within-number (is_of_host h w) h w z refl (sym (ap (λ b. within run_error.SUCCESSOR b high w) l ∙ ap (λ b. within run_error.SUCCESSOR (least h) b w) g) ∙ e)

-- ---- what is known of the parts of a form

-- a value that is known, of which a form is made
record OneKnown (f : KnownValue → Folded) (r : Folded) (x : KnownValue) : Type 0 where
  part : KnownValue
  is : r ≡ Known part
  gives : f part ≡ Known x

one_folded-known : (f : KnownValue → Folded) (r : Folded) (x : KnownValue) → one_folded f r ≡ Known x → OneKnown f r x
one_folded-known f (Known y) x e = record { part = y; is = refl; gives = e }
one_folded-known f Varies x e = cc
one_folded-known f Errs x e = cc

-- two of them
record BothKnown (f : KnownValue → KnownValue → Folded) (r s : Folded) (x : KnownValue) : Type 0 where
  left : KnownValue
  right : KnownValue
  left_is : r ≡ Known left
  right_is : s ≡ Known right
  gives : f left right ≡ Known x

two_folded-known : (f : KnownValue → KnownValue → Folded) (r s : Folded) (x : KnownValue) → two_folded f r s ≡ Known x → BothKnown f r s x
two_folded-known f (Known y) (Known z) x e = record { left = y; right = z; left_is = refl; right_is = refl; gives = e }
two_folded-known f (Known y) Varies x e = cc
two_folded-known f (Known y) Errs x e = cc
two_folded-known f Varies s x e = cc
two_folded-known f Errs (Known z) x e = cc
two_folded-known f Errs Varies x e = cc
two_folded-known f Errs Errs x e = cc

-- what is known of an operation whose right operand may not be evaluated is what is known of one of both
short_folded-known : (P : KnownValue → Type 0) (operation : ShortOperation) (r s : Folded) (x : KnownValue) → ((y : KnownValue) → r ≡ Known y → P y) → ((y : KnownValue) → s ≡ Known y → P y) → short_folded operation r s ≡ Known x → P x
short_folded-known P operation (Known y) (Known z) x f g e = chosen (decides operation (number_in y)) e
  where
    chosen : (b : Bool) → Known (if b then y else z) ≡ Known x → P x
    chosen true e = f x e
    chosen false e = g x e
short_folded-known P operation (Known y) Errs x f g e = chosen (decides operation (number_in y)) e
  where
    chosen : (b : Bool) → (if b then Known y else Errs) ≡ Known x → P x
    chosen true e = f x e
    chosen false e = cc
short_folded-known P operation (Known y) Varies x f g e = cc
short_folded-known P operation Varies s x f g e = cc
short_folded-known P operation Errs (Known z) x f g e = cc
short_folded-known P operation Errs Varies x f g e = cc
short_folded-known P operation Errs Errs x f g e = cc

-- ---- kinds of what is known

-- what is known is of this kind; no text and no structured value is known
abbrev pub OfKind : valid.ValueKind → KnownValue → Type 0
OfKind (valid.Ordinal h) (known_value.Number z) = IsTrue (is_of_host h z)
OfKind (valid.Set h) (known_value.Members ms) = IsSetOver h ms
OfKind _ _ = ⊥

number-of_kind : (h : Host) (k : valid.ValueKind) (z : ℤ) (x : KnownValue) → k ≡ valid.Ordinal h → IsTrue (is_of_host h z) → Known (known_value.Number z) ≡ Known x → OfKind k x
number-of_kind h k z x is p e =
    let same : known_value.Number z ≡ x = cc in
    subst (λ t. OfKind t x) (sym is) (subst (OfKind (valid.Ordinal h)) same p)

set-of_kind : (h : Host) (k : valid.ValueKind) (ms : List ℕ) (x : KnownValue) → k ≡ valid.Set h → IsSetOver h ms → Known (known_value.Members ms) ≡ Known x → OfKind k x
set-of_kind h k ms x is p e =
    let same : known_value.Members ms ≡ x = cc in
    subst (λ t. OfKind t x) (sym is) (subst (OfKind (valid.Set h)) same p)

-- the number of what is of an ordinal kind, and the set of what is of a set kind
number-of_host : (h : Host) (k : valid.ValueKind) (x : KnownValue) → k ≡ valid.Ordinal h → OfKind k x → IsTrue (is_of_host h (number_in x))
number-of_host h k x is p = within x (subst (λ t. OfKind t x) is p)
  where
    within : (y : KnownValue) → OfKind (valid.Ordinal h) y → IsTrue (is_of_host h (number_in y))
    within (known_value.Number z) q = q
    within (known_value.Members ms) q = absurd q

members-over : (h : Host) (k : valid.ValueKind) (x : KnownValue) → k ≡ valid.Set h → OfKind k x → IsSetOver h (members_in x)
members-over h k x is p = within x (subst (λ t. OfKind t x) is p)
  where
    within : (y : KnownValue) → OfKind (valid.Set h) y → IsSetOver h (members_in y)
    within (known_value.Number z) q = absurd q
    within (known_value.Members ms) q = q

-- an answer is of the kind where its number is
answer-of_kind : (h : Host) (k : valid.ValueKind) (a : Answer) (x : KnownValue) → k ≡ valid.Ordinal h → ((z : ℤ) → IsAnswer a z → IsTrue (is_of_host h z)) → answered a ≡ Known x → OfKind k x
answer-of_kind h k (Number w) x is f e = by_test (is_integer w) refl e
  where
    by_test : (b : Bool) → is_integer w ≡ b → (if b then Known (known_value.Number w) else Errs) ≡ Known x → OfKind k x
    by_test true whole e = number-of_kind h k w x is (f w (record { number = refl; whole = whole })) e
    by_test false whole e = cc
answer-of_kind h k (Fault error) x is f e = cc

-- an operation of a known number
one-of_kind : (operation : Unary) (k m : valid.ValueKind) (y x : KnownValue) → IsUnary operation k m → OfKind k y → answered (unary_answer operation (number_in y)) ≡ Known x → OfKind m x
one-of_kind unary.Same k m y x u p e = answer-of_kind host.Integer m (unary_answer unary.Same (number_in y)) x u.1 (λ z a. a.whole) e
one-of_kind unary.Negate k m y x u p e = answer-of_kind host.Integer m (unary_answer unary.Negate (number_in y)) x u.1 (λ z a. a.whole) e
one-of_kind unary.Not k m y x u p e = answer-of_kind host.Boolean m (unary_answer unary.Not (number_in y)) x u.1 (λ z a. same_number host.Boolean (pos 1 -ℤ number_in y) z (not_boolean (number_in y) (number-of_host host.Boolean k y u.0 p)) a.number) e
one-of_kind unary.Absolute k m y x u p e = answer-of_kind host.Integer m (unary_answer unary.Absolute (number_in y)) x u.1 (λ z a. a.whole) e
one-of_kind unary.Square k m y x u p e = answer-of_kind host.Integer m (unary_answer unary.Square (number_in y)) x u.1 (λ z a. a.whole) e
one-of_kind unary.Odd k m y x u p e = answer-of_kind host.Boolean m (unary_answer unary.Odd (number_in y)) x u.1 (λ z a. same_number host.Boolean (pos (unsigned_abs (number_in y) % 2)) z (odd_boolean (unsigned_abs (number_in y))) a.number) e
one-of_kind unary.Character k m y x u p e = answer-of_kind host.Char m (unary_answer unary.Character (number_in y)) x u.1 (λ z a. bounded-number host.Char _ _ (number_in y) z refl refl a.number) e

-- an operation of two
two-of_kind : (operation : Binary) (k l m : valid.ValueKind) (v w : ℤ) (x : KnownValue) → IsBinary operation k l m → answered (binary_answer operation v w) ≡ Known x → OfKind m x
two-of_kind binary.Add k l m v w x u e = answer-of_kind host.Integer m (binary_answer binary.Add v w) x u.2 (λ z a. a.whole) e
two-of_kind binary.Subtract k l m v w x u e = answer-of_kind host.Integer m (binary_answer binary.Subtract v w) x u.2 (λ z a. a.whole) e
two-of_kind binary.Multiply k l m v w x u e = answer-of_kind host.Integer m (binary_answer binary.Multiply v w) x u.2 (λ z a. a.whole) e
two-of_kind binary.Divide k l m v w x u e = answer-of_kind host.Integer m (binary_answer binary.Divide v w) x u.2 (λ z a. a.whole) e
two-of_kind binary.Modulo k l m v w x u e = answer-of_kind host.Integer m (binary_answer binary.Modulo v w) x u.2 (λ z a. a.whole) e
two-of_kind binary.And k l m v w x u e = answer-of_kind host.Boolean m (binary_answer binary.And v w) x u.2 (λ z a. same_number host.Boolean _ z (ordinal_boolean _) a.number) e
two-of_kind binary.Or k l m v w x u e = answer-of_kind host.Boolean m (binary_answer binary.Or v w) x u.2 (λ z a. same_number host.Boolean _ z (ordinal_boolean _) a.number) e
two-of_kind binary.Equal k l m v w x u e = answer-of_kind host.Boolean m (binary_answer binary.Equal v w) x u.1 (λ z a. same_number host.Boolean _ z (ordinal_boolean _) a.number) e
two-of_kind binary.Unequal k l m v w x u e = answer-of_kind host.Boolean m (binary_answer binary.Unequal v w) x u.1 (λ z a. same_number host.Boolean _ z (ordinal_boolean _) a.number) e
two-of_kind binary.Less k l m v w x u e = answer-of_kind host.Boolean m (binary_answer binary.Less v w) x u.1 (λ z a. same_number host.Boolean _ z (ordinal_boolean _) a.number) e
two-of_kind binary.Greater k l m v w x u e = answer-of_kind host.Boolean m (binary_answer binary.Greater v w) x u.1 (λ z a. same_number host.Boolean _ z (ordinal_boolean _) a.number) e
two-of_kind binary.AtMost k l m v w x u e = answer-of_kind host.Boolean m (binary_answer binary.AtMost v w) x u.1 (λ z a. same_number host.Boolean _ z (ordinal_boolean _) a.number) e
two-of_kind binary.AtLeast k l m v w x u e = answer-of_kind host.Boolean m (binary_answer binary.AtLeast v w) x u.1 (λ z a. same_number host.Boolean _ z (ordinal_boolean _) a.number) e

step-of_kind : (down : Bool) (low high : ℤ) (h : Host) (k : valid.ValueKind) (v n : ℤ) (x : KnownValue) → k ≡ valid.Ordinal h → low ≡ least h → high ≡ greatest h → answered (step_answer down low high v n) ≡ Known x → OfKind k x
step-of_kind true low high h k v n x is l g e = answer-of_kind h k (step_answer true low high v n) x is (λ z a. bounded-number h low high _ z l g a.number) e
step-of_kind false low high h k v n x is l g e = answer-of_kind h k (step_answer false low high v n) x is (λ z a. bounded-number h low high _ z l g a.number) e

-- ---- operations on sets

on_sets-of_kind : (operation : SetOperation) (k l m : valid.ValueKind) (y z x : KnownValue) → IsOnSets operation k l m → OfKind k y → OfKind l z → as_known (set_answer operation (result_of y) (result_of z)) ≡ Known x → OfKind m x
on_sets-of_kind on_sets.Union k l m y z x u p q e = set-of_kind u.0 m _ x u.3 (combined-over u.0 on_sets.Union _ _ (members-over u.0 k y u.1 p) (members-over u.0 l z u.2 q)) e
on_sets-of_kind on_sets.Difference k l m y z x u p q e = set-of_kind u.0 m _ x u.3 (combined-over u.0 on_sets.Difference _ _ (members-over u.0 k y u.1 p) (members-over u.0 l z u.2 q)) e
on_sets-of_kind on_sets.Intersection k l m y z x u p q e = set-of_kind u.0 m _ x u.3 (combined-over u.0 on_sets.Intersection _ _ (members-over u.0 k y u.1 p) (members-over u.0 l z u.2 q)) e
on_sets-of_kind on_sets.SymmetricDifference k l m y z x u p q e = set-of_kind u.0 m _ x u.3 (combined-over u.0 on_sets.SymmetricDifference _ _ (members-over u.0 k y u.1 p) (members-over u.0 l z u.2 q)) e
on_sets-of_kind on_sets.Equal k l m y z x u p q e = number-of_kind host.Boolean m _ x u.1 (ordinal_boolean _) e
on_sets-of_kind on_sets.Unequal k l m y z x u p q e = number-of_kind host.Boolean m _ x u.1 (ordinal_boolean _) e
on_sets-of_kind on_sets.Subset k l m y z x u p q e = number-of_kind host.Boolean m _ x u.1 (ordinal_boolean _) e
on_sets-of_kind on_sets.Superset k l m y z x u p q e = number-of_kind host.Boolean m _ x u.1 (ordinal_boolean _) e
on_sets-of_kind on_sets.In k l m y z x u p q e = number-of_kind host.Boolean m _ x u.1 (ordinal_boolean _) e

-- a set that is found
found-of_kind : (h : Host) (o : Option (List ℕ)) (x : KnownValue) → IsFound h o → set_found o ≡ Known x → OfKind (valid.Set h) x
found-of_kind h (Some ms) x p e = set-of_kind h (valid.Set h) ms x refl p e
found-of_kind h None x p e = cc

-- how many members there are is an integer
count_integer : (n : ℕ) → n ≤ member_limit → IsTrue (is_of_host host.Integer (pos n))
count_integer n le = grind (arith, nat_tests)

-- what one set and another one are joined to
joined-known : (h : Host) (found d : Folded) → ((y : KnownValue) → found ≡ Known y → OfKind (valid.Set h) y) → ((y : KnownValue) → d ≡ Known y → OfKind (valid.Set h) y) → (x : KnownValue) → joined found d ≡ Known x → OfKind (valid.Set h) x
joined-known h found d f g x e =
    let p = two_folded-known _ found d x e in
    set-of_kind h (valid.Set h) _ x refl (combined-over h on_sets.Union _ _ (members-over h (valid.Set h) p.left refl (f p.left p.left_is)) (members-over h (valid.Set h) p.right refl (g p.right p.right_is))) p.gives

-- ---- forms

module _ (declared : Declarations) where
  mutual
    -- what is known of a valid form is of the form's kind
    pub known-of_kind : (e : Expr) (k : valid.ValueKind) (x : KnownValue) → IsExpr declared k e → folded e ≡ Known x → OfKind k x
    known-of_kind (Constant z) k x v f = number-of_kind v.0 k z x v.1 v.2 f
    known-of_kind (Text bytes) k x v f = cc
    known-of_kind (Read place) k x v f = cc
    known-of_kind (One operation a) k x v f = let p = one_folded-known _ (folded a) x f in one-of_kind operation v.0 k p.part x v.1 (known-of_kind a v.0 p.part v.2 p.is) p.gives
    known-of_kind (Two operation a b) k x v f = let p = two_folded-known _ (folded a) (folded b) x f in two-of_kind operation v.0 v.1 k _ _ x v.2 p.gives
    known-of_kind (Short operation a b) k x v f =
        subst (λ t. OfKind t x) (sym v.0)
        (short_folded-known (OfKind (valid.Ordinal host.Boolean)) operation (folded a) (folded b) x (λ y e. known-of_kind a (valid.Ordinal host.Boolean) y v.1 e) (λ y e. known-of_kind b (valid.Ordinal host.Boolean) y v.2 e) f)
    known-of_kind (Step down low high a b) k x v f = let p = two_folded-known _ (folded a) (folded b) x f in step-of_kind down low high v.0 k _ _ x v.1 v.2 v.3 p.gives
    known-of_kind (Function callee given) k x v f = cc
    known-of_kind (IndexedValue array index) k x v f = cc
    known-of_kind (FieldValue whole number) k x v f = cc
    known-of_kind (VariantValue whole selection number) k x v f = cc
    known-of_kind (tree.Structured number es) k x v f = cc
    known-of_kind (SetConstant ms) k x v f = set-of_kind v.0 k ms x v.1 (v.2, v.3) f
    known-of_kind (SetOf ds) k x v f =
        subst (λ t. OfKind t x) (sym v.1)
        (members-of_kind v.0 ds (Known (known_value.Members [])) x (λ y e. set-of_kind v.0 (valid.Set v.0) [] y refl (empty-over v.0) e) v.2 f)
    known-of_kind (OnSets operation a b) k x v f =
        let p = two_folded-known _ (folded a) (folded b) x f in
        on_sets-of_kind operation v.0 v.1 k p.left p.right x v.2 (known-of_kind a v.0 p.left v.3 p.left_is) (known-of_kind b v.1 p.right v.4 p.right_is) p.gives
    known-of_kind (Card a) k x v f =
        let p = one_folded-known _ (folded a) x f in
        let set = members-over v.0 (valid.Set v.0) p.part refl (known-of_kind a (valid.Set v.0) p.part v.2 p.is) in
        number-of_kind host.Integer k _ x v.1 (count_integer (length (members_in p.part)) (few_members (members_in p.part) set.0)) p.gives

    member-of_kind : (h : Host) (d : Designator) (x : KnownValue) → IsDesignator declared h d → folded_member d ≡ Known x → OfKind (valid.Set h) x
    member-of_kind h (Single a) x v f =
        let p = one_folded-known _ (folded a) x f in
        found-of_kind h _ x (single-over h (number_in p.part) (number-of_host h (valid.Ordinal h) p.part refl (known-of_kind a (valid.Ordinal h) p.part v p.is))) p.gives
    member-of_kind h (Range a b) x v f =
        let p = two_folded-known _ (folded a) (folded b) x f in
        found-of_kind h _ x
        (range-over h (number_in p.left) (number_in p.right) (number-of_host h (valid.Ordinal h) p.left refl (known-of_kind a (valid.Ordinal h) p.left v.0 p.left_is))
        (number-of_host h (valid.Ordinal h) p.right refl (known-of_kind b (valid.Ordinal h) p.right v.1 p.right_is))) p.gives

    -- what designators give besides what was found is a set over the host
    members-of_kind : (h : Host) (ds : Designators) (found : Folded) (x : KnownValue) → ((y : KnownValue) → found ≡ Known y → OfKind (valid.Set h) y) → AreDesignators declared h ds → folded_members found ds ≡ Known x → OfKind (valid.Set h) x
    members-of_kind h no_member found x before v f = before x f
    members-of_kind h (next_member d more) found x before v f =
        members-of_kind h more (joined found (folded_member d)) x (joined-known h found (folded_member d) before (λ y e. member-of_kind h d y v.0 e)) v.1 f
