-- The machine follows set constructors and the operations on sets.
use Rattle.std.proofs.Common.{◌≡◌, ℕ, ℤ, pos, suc, ◌+◌, ◌≤◌, not, IsTrue, List, [], ◌∷◌, ◌++◌, length, length-append, Bool, Some, slice_get, refl, sym, ap, ◌∙◌, subst, arith}
use Rattle.std.proofs.lemmas.Bool.Decides.{nat_tests}
use Rattle.ep_simulation.specs.Follows.{Facts, Fragment, Inside, OnTop, point}
use Rattle.ep_simulation.specs.Layouts.{Layout}
use Rattle.ep_simulation.specs.Matching.{Injection, MachineMemory, Slots, at as standing}
use Rattle.ep_object.specs.Operands.{Operand, Set, Word}
use Rattle.ep_object.specs.Placing.{Placement, CodeStands, placed}
use Rattle.ep_simulation.specs.Promises.{IsValueOf}
use Rattle.ep_object.specs.Runs.{unit_in}
use Rattle.ep_object.specs.Sets.{IsSet, member_limit}
use Rattle.ep_object.specs.declared.code.Image.{Image}
use Rattle.ep_object.specs.declared.code.Instr.{Instr}
use Rattle.ep_object.specs.declared.code.Reference.{Reference}
use Rattle.ep_object.proofs.public.SetWords.{few_members, members_set, none_set}
use Rattle.ep_simulation.proofs.public.following.Choices.{Reads, fragment_fetched}
use Rattle.ep_simulation.proofs.public.following.Fragments.{fragment_bind_number, fragment_credit, fragment_from, fragment_give, fragment_less, fragment_one, fragment_to, inside_bind}
use Rattle.ep_simulation.proofs.public.matching.Awaiting.{on_top, value-grown, value_on_top}
use Rattle.ep_simulation.proofs.public.matching.MoreMemory.{inside_here, unit_in-same}
use Rattle.ep_simulation.proofs.public.rows.Rows.{RowPushes}
use Rattle.ep_simulation.proofs.public.rows.SetRows.{MembersOnTop, add_reads, card_pushes, difference_pushes, in_pushes, intersection_pushes, none_pushes, other_pushes, same_pushes, span_reads, subset_pushes, superset_pushes, symmetric_difference_pushes, union_pushes}
use Rattle.ep_meaning.specs.Calls.{Handler}
use Rattle.ep_typed.specs.Hosts.{Host, is_of_host}
use Rattle.ep_typed.specs.Hosts as host
use Rattle.ep_meaning.specs.Meaning.{collected, eval, extended}
use Rattle.ep_values.specs.Operations.{ordinal_of}
use Rattle.ep_values.specs.Printing.{Result, members_of, number_of}
use Rattle.ep_values.specs.Printing as result
use Rattle.ep_meaning.specs.Results.{weight_of}
use Rattle.ep_values.specs.SetOperations.{set_answer}
use Rattle.ep_values.specs.Sets.{difference, intersection, is_member, is_same_set, is_subset, symmetric_difference, union, with_number, with_numbers}
use Rattle.ep_meaning.specs.Steady.{IsSteadyHandler}
use Rattle.ep_meaning.specs.Steps.{bind, give, spend}
use Rattle.ep_typed.specs.Trees.{Expr, SetOf, OnSets, Card, Designator, Single, Range, Designators, no_member, next_member}
use Rattle.ep_meaning.specs.Valid as kind
use Rattle.ep_meaning.specs.Valid.{ValueKind, Ordinal, IsCombination, IsSetComparison, IsMembership, IsOnSets}
use Rattle.ep_values.specs.declared.operations.SetOperation.{SetOperation}
use Rattle.ep_values.specs.declared.operations.SetOperation.TheVariants as set
use Rattle.ep_meaning.proofs.public.Steady.{steady_bind, steady_collected, steady_eval, steady_fetch, steady_give, steady_spend}
use Rattle.ep_gen_code.specs.Credit.{least_credit}
use Rattle.ep_gen_code.specs.Instructions.{bare}
use Rattle.ep_gen_expr.specs.ExprCode.{set_code}
use Rattle.ep_gen_expr.proofs.public.Answering.{Evaluates, IsFollowed}
use Rattle.ep_gen_expr.proofs.Hosts.{ordinal_boolean}
use Rattle.ep_object.specs.declared.op.TheConstants as op
use Rattle.ep_values.specs.declared.run_error.TheConstants as run_error

-- ---- operations

-- what an operation on sets gives has no weight
answer_light : (operation : SetOperation) (x y : Result) → weight_of (set_answer operation x y) ≡ 0
answer_light set.Union x y = refl
answer_light set.Difference x y = refl
answer_light set.Intersection x y = refl
answer_light set.SymmetricDifference x y = refl
answer_light set.Equal x y = refl
answer_light set.Unequal x y = refl
answer_light set.Subset x y = refl
answer_light set.Superset x y = refl
answer_light set.In x y = refl

-- how many members a set has is an integer
card_integer : (n : ℕ) → n ≤ member_limit → IsTrue (is_of_host host.Integer (pos n))
card_integer n le = grind (arith, nat_tests)

module _ (G : Image) (place : ℕ) (below : List Operand) (injection : Injection) (memory : MachineMemory) (x y : Result) (xo yo : Operand) where
  -- the instruction leaves the value of this result in place of the two operands
  record Leaves (k : ValueKind) (r : Result) : Type 0 where
    left : Operand
    pushes : RowPushes G place (yo ∷ xo ∷ below) 0 (left ∷ below)
    value : IsValueOf injection memory k r left

  pushes_for : (left : Operand) (xs ys : Operand) → xo ≡ xs → yo ≡ ys → RowPushes G place (ys ∷ xs ∷ below) 0 (left ∷ below) → RowPushes G place (yo ∷ xo ∷ below) 0 (left ∷ below)
  pushes_for left xs ys ex ey row =
      subst (λ o. RowPushes G place (yo ∷ o ∷ below) 0 (left ∷ below)) (sym ex) (subst (λ o. RowPushes G place (o ∷ xs ∷ below) 0 (left ∷ below)) (sym ey) row)

  -- a set of two
  combination : {left right k : ValueKind} (answer : List ℕ → List ℕ → List ℕ) → ((ms ns : List ℕ) → IsSet (answer ms ns))
      → ((ms ns : List ℕ) → RowPushes G place (Set ns ∷ Set ms ∷ below) 0 (Set (answer ms ns) ∷ below))
      → IsCombination left right k → IsValueOf injection memory left x xo → IsValueOf injection memory right y yo
      → Leaves k (result.Members (answer (members_of x) (members_of y)))
  combination {left = left} {right = right} {k = k} answer is_set row (h, l, r, e) vx vy =
      let a : IsValueOf injection memory (kind.Set h) x xo = subst (λ j. IsValueOf injection memory j x xo) l vx in
      let b : IsValueOf injection memory (kind.Set h) y yo = subst (λ j. IsValueOf injection memory j y yo) r vy in
      let same : result.Members (answer (members_of x) (members_of y)) ≡ result.Members (answer a.0 b.0) = λ i. result.Members (answer (members_of (a.1 i)) (members_of (b.1 i))) in
      let given : IsValueOf injection memory (kind.Set h) (result.Members (answer (members_of x) (members_of y))) (Set (answer a.0 b.0)) = (answer a.0 b.0, same, is_set a.0 b.0, refl) in
      record {
        left = Set (answer a.0 b.0);
        pushes = pushes_for (Set (answer a.0 b.0)) (Set a.0) (Set b.0) a.3 b.3 (row a.0 b.0);
        value = subst (λ j. IsValueOf injection memory j (result.Members (answer (members_of x) (members_of y))) (Set (answer a.0 b.0))) (sym e) given;
      }

  -- whether two compare so
  comparison : {left right k : ValueKind} (answer : List ℕ → List ℕ → Bool)
      → ((ms ns : List ℕ) → RowPushes G place (Set ns ∷ Set ms ∷ below) 0 (Word (ordinal_of (answer ms ns)) ∷ below))
      → IsSetComparison left right k → IsValueOf injection memory left x xo → IsValueOf injection memory right y yo
      → Leaves k (result.Number (ordinal_of (answer (members_of x) (members_of y))))
  comparison {left = left} {right = right} {k = k} answer row ((h, l, r), e) vx vy =
      let a : IsValueOf injection memory (kind.Set h) x xo = subst (λ j. IsValueOf injection memory j x xo) l vx in
      let b : IsValueOf injection memory (kind.Set h) y yo = subst (λ j. IsValueOf injection memory j y yo) r vy in
      let same : result.Number (ordinal_of (answer (members_of x) (members_of y))) ≡ result.Number (ordinal_of (answer a.0 b.0)) = λ i. result.Number (ordinal_of (answer (members_of (a.1 i)) (members_of (b.1 i)))) in
      let given : IsValueOf injection memory (Ordinal host.Boolean) (result.Number (ordinal_of (answer (members_of x) (members_of y)))) (Word (ordinal_of (answer a.0 b.0))) = (ordinal_of (answer a.0 b.0), same, ordinal_boolean (answer a.0 b.0), refl) in
      record {
        left = Word (ordinal_of (answer a.0 b.0));
        pushes = pushes_for (Word (ordinal_of (answer a.0 b.0))) (Set a.0) (Set b.0) a.3 b.3 (row a.0 b.0);
        value = subst (λ j. IsValueOf injection memory j (result.Number (ordinal_of (answer (members_of x) (members_of y)))) (Word (ordinal_of (answer a.0 b.0)))) (sym e) given;
      }

  -- whether a value is a member
  membership : {left right k : ValueKind}
      → ((z : ℤ) (ns : List ℕ) → RowPushes G place (Set ns ∷ Word z ∷ below) 0 (Word (ordinal_of (is_member z ns)) ∷ below))
      → IsMembership left right k → IsValueOf injection memory left x xo → IsValueOf injection memory right y yo
      → Leaves k (result.Number (ordinal_of (is_member (number_of x) (members_of y))))
  membership {left = left} {right = right} {k = k} row ((h, l, r), e) vx vy =
      let a : IsValueOf injection memory (Ordinal h) x xo = subst (λ j. IsValueOf injection memory j x xo) l vx in
      let b : IsValueOf injection memory (kind.Set h) y yo = subst (λ j. IsValueOf injection memory j y yo) r vy in
      let same : result.Number (ordinal_of (is_member (number_of x) (members_of y))) ≡ result.Number (ordinal_of (is_member a.0 b.0)) = λ i. result.Number (ordinal_of (is_member (number_of (a.1 i)) (members_of (b.1 i)))) in
      let given : IsValueOf injection memory (Ordinal host.Boolean) (result.Number (ordinal_of (is_member (number_of x) (members_of y)))) (Word (ordinal_of (is_member a.0 b.0))) = (ordinal_of (is_member a.0 b.0), same, ordinal_boolean (is_member a.0 b.0), refl) in
      record {
        left = Word (ordinal_of (is_member a.0 b.0));
        pushes = pushes_for (Word (ordinal_of (is_member a.0 b.0))) (Word a.0) (Set b.0) a.3 b.3 (row a.0 b.0);
        value = subst (λ j. IsValueOf injection memory j (result.Number (ordinal_of (is_member (number_of x) (members_of y)))) (Word (ordinal_of (is_member a.0 b.0)))) (sym e) given;
      }

  -- each operation by its instruction
  operates : (ps : List Placement) (p : Placement) (references : List Reference) (line : ℕ) (operation : SetOperation) (left right k : ValueKind) → IsOnSets operation left right k
      → slice_get G.instructions place ≡ Some (placed ps p references (set_code line operation))
      → IsValueOf injection memory left x xo → IsValueOf injection memory right y yo → Leaves k (set_answer operation x y)
  operates ps p references line set.Union left right k kinds has vx vy = combination union (λ ms ns. members_set _) (λ ms ns. union_pushes G place line below ms ns has) kinds vx vy
  operates ps p references line set.Difference left right k kinds has vx vy = combination difference (λ ms ns. members_set _) (λ ms ns. difference_pushes G place line below ms ns has) kinds vx vy
  operates ps p references line set.Intersection left right k kinds has vx vy = combination intersection (λ ms ns. members_set _) (λ ms ns. intersection_pushes G place line below ms ns has) kinds vx vy
  operates ps p references line set.SymmetricDifference left right k kinds has vx vy = combination symmetric_difference (λ ms ns. members_set _) (λ ms ns. symmetric_difference_pushes G place line below ms ns has) kinds vx vy
  operates ps p references line set.Equal left right k kinds has vx vy = comparison is_same_set (λ ms ns. same_pushes G place line below ms ns has) kinds vx vy
  operates ps p references line set.Unequal left right k kinds has vx vy = comparison (λ ms ns. not (is_same_set ms ns)) (λ ms ns. other_pushes G place line below ms ns has) kinds vx vy
  operates ps p references line set.Subset left right k kinds has vx vy = comparison is_subset (λ ms ns. subset_pushes G place line below ms ns has) kinds vx vy
  operates ps p references line set.Superset left right k kinds has vx vy = comparison (λ ms ns. is_subset ns ms) (λ ms ns. superset_pushes G place line below ms ns has) kinds vx vy
  operates ps p references line set.In left right k kinds has vx vy = membership (λ z ns. in_pushes G place line below z ns has) kinds vx vy

-- ---- member designators that are followed

module _ (layout : Layout) (G : Image) (untouched : Slots) (Here : Facts) (p : Placement) (call : Handler) (g : ℕ) (unit : List ℕ) (line n : ℕ) where
  -- From each memory of a routine of the unit, with a set on top, the machine follows the member designator through this code,
  -- which begins at this place of the object, and leaves the set with what it gives.
  abbrev pub IsDesignatorFollowed : Designator → ℕ → List Instr → Type 0
  IsDesignatorFollowed d at code =
      (injection : Injection) (memory : MachineMemory) (below : List Operand) (ms : List ℕ) (credit : ℕ) → IsSet ms → least_credit ≤ credit → unit_in G memory.frames ≡ unit
      → Fragment layout G Here n (point injection memory (p.instructions.before + at) (Set ms ∷ below)) (extended call g unit line ms d) (p.instructions.before + (at + length code)) (λ ns. Inside untouched injection memory (MembersOnTop below ns)) credit (λ ns. credit)

  -- the same of member designators in order
  abbrev pub AreDesignatorsFollowed : Designators → ℕ → List Instr → Type 0
  AreDesignatorsFollowed ds at code =
      (injection : Injection) (memory : MachineMemory) (below : List Operand) (ms : List ℕ) (credit : ℕ) → IsSet ms → least_credit ≤ credit → unit_in G memory.frames ≡ unit
      → Fragment layout G Here n (point injection memory (p.instructions.before + at) (Set ms ∷ below)) (collected call g unit line ms ds) (p.instructions.before + (at + length code)) (λ ns. Inside untouched injection memory (MembersOnTop below ns)) credit (λ ns. credit)

module _ {layout : Layout} {G : Image} {untouched : Slots} {Here : Facts} (ps : List Placement) (p : Placement) (references : List Reference) (call : Handler) (steady_call : IsSteadyHandler call) (g : ℕ) (unit : List ℕ) (line n : ℕ) where
  -- an operation of two operands of which the right one at least is a set
  pub on_sets_follows : (operation : SetOperation) (x y : Expr) (k l kind : ValueKind) → IsOnSets operation k l kind → (at : ℕ) (xs ys : List Instr)
      → IsFollowed layout G untouched Here p call g unit n k x line at xs → IsFollowed layout G untouched Here p call g unit n l y line (at + length xs) ys
      → CodeStands G ps p references (at + length xs + length ys) (set_code line operation ∷ [])
      → IsFollowed layout G untouched Here p call g unit n kind (OnSets operation x y) line at (xs ++ (ys ++ set_code line operation ∷ []))
  on_sets_follows operation x y k l kind kinds at xs ys first second stands injection memory below d le unit_is =
      let middle : ℕ = p.instructions.before + (at + length xs) in
      let last : ℕ = p.instructions.before + (at + length xs + length ys) in
      let end : ℕ = p.instructions.before + (at + length (xs ++ (ys ++ set_code line operation ∷ []))) in
      inside_bind {First = OnTop k below} {e = λ a. d + 8 + weight_of a} (λ a. steady_bind (steady_eval call steady_call g unit line y) (λ b. steady_spend 1 (steady_give (set_answer operation a b)))) (first injection memory below d le unit_is) (λ a v1 m1 pushed grown1 routine1 top1.
      let vx = value_on_top k below a v1 m1 pushed top1 in
      subst (λ st. Evaluates layout G untouched Here n v1 m1 middle st (bind (eval call g unit line y) (λ b. spend 1 (give (set_answer operation a b)))) end kind below (d + 8 + weight_of a) (d + 8)) (sym vx.2)
      (inside_bind {First = OnTop l (vx.0 ∷ below)} {e = λ b. d + 8 + weight_of a + 8 + weight_of b} (λ b. steady_spend 1 (steady_give (set_answer operation a b))) (second v1 m1 (vx.0 ∷ below) (d + 8 + weight_of a) (omega (arith, le)) (unit_in-same G routine1 ∙ unit_is)) (λ b v2 m2 pushed2 grown2 routine2 top2.
      let vy = value_on_top l (vx.0 ∷ below) b v2 m2 pushed2 top2 in
      let o : Leaves G last below v2 m2 a b vx.0 vy.0 kind (set_answer operation a b) = operates G last below v2 m2 a b vx.0 vy.0 ps p references line operation k l kind kinds stands.0 (value-grown k a vx.0 grown2 vx.1) vy.1 in
      subst (λ st. Evaluates layout G untouched Here n v2 m2 last st (spend 1 (give (set_answer operation a b))) end kind below (d + 8 + weight_of a + 8 + weight_of b) (d + 8)) (sym vy.2)
      (fragment_less {n = suc n} (omega arith) (fragment_to (omega (arith, length-append xs (ys ++ set_code line operation ∷ []), length-append ys (set_code line operation ∷ [])))
      (fragment_one {n = n} {d1 = d + 8} (λ s matches. o.pushes m2 s.trace) (omega arith)
      (fragment_give (omega (arith, answer_light operation a b)) (inside_here (on_top kind below (set_answer operation a b) o.left v2 m2 (o.left ∷ below) o.value refl)))))))))

  -- how many members a set has
  pub card_follows : (h : Host) (x : Expr) (at : ℕ) (xs : List Instr) → IsFollowed layout G untouched Here p call g unit n (kind.Set h) x line at xs
      → slice_get G.instructions (p.instructions.before + (at + length xs)) ≡ Some (bare line op.CARD)
      → IsFollowed layout G untouched Here p call g unit n (Ordinal host.Integer) (Card x) line at (xs ++ bare line op.CARD ∷ [])
  card_follows h x at xs first has injection memory below d le unit_is =
      let middle : ℕ = p.instructions.before + (at + length xs) in
      let end : ℕ = p.instructions.before + (at + length (xs ++ bare line op.CARD ∷ [])) in
      inside_bind {First = OnTop (kind.Set h) below} {e = λ a. d + 8 + weight_of a} (λ a. steady_spend 1 (steady_give (result.Number (pos (length (members_of a)))))) (first injection memory below d le unit_is) (λ a v1 m1 pushed grown1 routine1 top.
      subst (λ st. Evaluates layout G untouched Here n v1 m1 middle st (spend 1 (give (result.Number (pos (length (members_of a)))))) end (Ordinal host.Integer) below (d + 8 + weight_of a) (d + 8)) (sym top.is)
      (fragment_less {n = suc n} (omega arith) (fragment_to (omega (arith, length-append xs (bare line op.CARD ∷ [])))
      (fragment_one {n = n} {d1 = d + 8} (λ s matches. card_pushes G middle line below top.members has m1 s.trace) (omega arith)
      (fragment_give (omega arith) (inside_here (record {
        number = pos (length top.members);
        is_number = ap (λ r. result.Number (pos (length (members_of r)))) top.is_members;
        of_host = card_integer (length top.members) (few_members top.members top.is_set);
        is = refl;
      })))))))

  -- ---- set constructors

  -- a value that is a member
  pub single_follows : (h : Host) (x : Expr) (at : ℕ) (xs : List Instr) → IsFollowed layout G untouched Here p call g unit n (Ordinal h) x line at xs
      → slice_get G.instructions (p.instructions.before + (at + length xs)) ≡ Some (bare line op.SET_ADD)
      → IsDesignatorFollowed layout G untouched Here p call g unit line n (Single x) at (xs ++ bare line op.SET_ADD ∷ [])
  single_follows h x at xs first has injection memory below ms credit is_set le unit_is =
      let middle : ℕ = p.instructions.before + (at + length xs) in
      fragment_bind_number {host = h} {e = λ r. credit + 8 + weight_of r} (λ a. steady_fetch _ _) (first injection memory (Set ms ∷ below) credit le unit_is) (λ z v1 m1 of_z grown routine.
      fragment_to (omega (arith, length-append xs (bare line op.SET_ADD ∷ [])))
      (fragment_fetched {d1 = credit} (λ s. with_number z ms) (λ s matches here.
      subst (λ u. Reads layout G Here (standing middle (Word z ∷ Set ms ∷ below) m1 s.trace) run_error.SET_MEMBER u line (middle + 1) (λ ns. Inside untouched v1 m1 (MembersOnTop below ns)) s (with_number z ms)) (unit_in-same G routine ∙ unit_is)
      (add_reads layout G middle line below v1 m1 s matches here ms z has)) (omega arith)))

  -- the first and the last of values that are
  pub range_follows : (h : Host) (x y : Expr) (at : ℕ) (xs ys : List Instr) → IsFollowed layout G untouched Here p call g unit n (Ordinal h) x line at xs
      → IsFollowed layout G untouched Here p call g unit n (Ordinal h) y line (at + length xs) ys
      → slice_get G.instructions (p.instructions.before + (at + length xs + length ys)) ≡ Some (bare line op.SET_SPAN)
      → IsDesignatorFollowed layout G untouched Here p call g unit line n (Range x y) at (xs ++ (ys ++ bare line op.SET_SPAN ∷ []))
  range_follows h x y at xs ys first second has injection memory below ms credit is_set le unit_is =
      let last : ℕ = p.instructions.before + (at + length xs + length ys) in
      fragment_bind_number {host = h} {e = λ r. credit + 8} (λ a. steady_bind (steady_eval call steady_call g unit line y) (λ b. steady_fetch _ _)) (fragment_credit {d = credit} (omega arith) (λ r. omega arith) (first injection memory (Set ms ∷ below) credit le unit_is)) (λ z v1 m1 of_z grown1 routine1.
      fragment_bind_number {host = h} {e = λ r. credit + 8 + 8 + weight_of r} (λ b. steady_fetch _ _) (second v1 m1 (Word z ∷ Set ms ∷ below) (credit + 8) (omega (arith, le)) (unit_in-same G routine1 ∙ unit_is)) (λ w v2 m2 of_w grown2 routine2.
      fragment_to (omega (arith, length-append xs (ys ++ bare line op.SET_SPAN ∷ []), length-append ys (bare line op.SET_SPAN ∷ [])))
      (fragment_fetched {d1 = credit} (λ s. with_numbers z w ms) (λ s matches here.
      subst (λ u. Reads layout G Here (standing last (Word w ∷ Word z ∷ Set ms ∷ below) m2 s.trace) run_error.SET_MEMBER u line (last + 1) (λ ns. Inside untouched v2 m2 (MembersOnTop below ns)) s (with_numbers z w ms)) (unit_in-same G routine2 ∙ (unit_in-same G routine1 ∙ unit_is))
      (span_reads layout G last line below v2 m2 s matches here ms z w is_set has)) (omega arith))))

  -- no member designator
  pub no_member_follows : (at : ℕ) (is : List Instr) → is ≡ [] → AreDesignatorsFollowed layout G untouched Here p call g unit line n no_member at is
  no_member_follows at is none injection memory below ms credit is_set le unit_is =
      fragment_to {to = p.instructions.before + at} (omega (arith, ap length none)) (fragment_give (omega arith) (inside_here (record { is_set = is_set; is = refl })))

  -- one before others
  pub next_member_follows : (d : Designator) (ds : Designators) (at : ℕ) (xs ys is : List Instr) → is ≡ xs ++ ys
      → IsDesignatorFollowed layout G untouched Here p call g unit line n d at xs → AreDesignatorsFollowed layout G untouched Here p call g unit line n ds (at + length xs) ys → AreDesignatorsFollowed layout G untouched Here p call g unit line n (next_member d ds) at is
  next_member_follows d ds at xs ys is parts first others injection memory below ms credit is_set le unit_is =
      let ends : at + length xs + length ys ≡ at + length is = omega (arith, ap length parts, length-append xs ys) in
      fragment_to (ap (λ m. p.instructions.before + m) ends)
      (inside_bind {First = MembersOnTop below} {e = λ ns. credit} (λ ns. steady_collected call steady_call g unit line ns ds) (first injection memory below ms credit is_set le unit_is) (λ ns v1 m1 pushed grown routine top.
      subst (λ st. Fragment layout G Here n (point v1 m1 (p.instructions.before + (at + length xs)) st) (collected call g unit line ns ds) (p.instructions.before + (at + length xs + length ys)) (λ all. Inside untouched v1 m1 (MembersOnTop below all)) credit (λ all. credit)) (sym top.is)
      (others v1 m1 below ns credit top.is_set le (unit_in-same G routine ∙ unit_is))))

  -- a set constructor, which spends its step with its first instruction
  pub constructor_follows : (h : Host) (ds : Designators) (at : ℕ) (xs : List Instr)
      → slice_get G.instructions (p.instructions.before + at) ≡ Some (bare line op.SET_NONE)
      → AreDesignatorsFollowed layout G untouched Here p call g unit line n ds (at + 1) xs
      → IsFollowed layout G untouched Here p call g unit n (kind.Set h) (SetOf ds) line at (bare line op.SET_NONE ∷ xs)
  constructor_follows h ds at xs has members injection memory below d le unit_is =
      let first : ℕ = p.instructions.before + (at + 1) in
      let begins : p.instructions.before + at + 1 ≡ first = omega arith in
      fragment_less {n = suc n} (omega arith) (fragment_to {to = p.instructions.before + (at + 1 + length xs)} (omega arith)
      (fragment_one {n = n} {d1 = d + 8} (λ s matches. none_pushes G (p.instructions.before + at) line below has memory s.trace) (omega arith)
      (fragment_from {place = first} begins
      (inside_bind {First = MembersOnTop below} {e = λ ms. d + 8} (λ ms. steady_give (result.Members ms)) (members injection memory below [] (d + 8) none_set (omega (arith, le)) unit_is) (λ ms v1 m1 pushed grown routine top.
      fragment_give (omega arith) (inside_here (record { members = ms; is_members = refl; is_set = top.is_set; is = top.is })))))))
