-- A parser at a token with which its description does not begin: it takes nothing where the description may be nothing, and otherwise refuses the token.
use Rattle.std.proofs.Common.{◌≡◌, ℕ, zero, suc, Bool, true, false, List, [], ◌∷◌, ◌++◌, length, Option, Some, None, refl, sym, ap, ◌∙◌, subst}
use Rattle.std.specs.Prelude.{if◌then◌else◌}
use Rattle.ep_token.specs.declared.token.Token.{Token}
use Rattle.ep_grammar.specs.declared.stop.Stop.TheVariants.{Syntax}
use Rattle.ep_grammar.specs.Classes.{Class, Sort, classes, has, class_of, line_of, meaning}
use Rattle.ep_grammar.specs.Descriptions.{Nonterminal, Node, Step, give, token, line, inside, apply, either, switch, row, deeper, shaped}
use Rattle.ep_grammar.specs.Descriptions as d
use Rattle.ep_grammar.specs.Reading.{ReadOutcome, Parser, and_then, taken, read_token, steps, Inside, read_inside, cause, within, by_shape, refused, read}
use Rattle.ep_grammar.specs.Rules.{rule, inside_at}
use Rattle.ep_grammar.proofs.public.Outcomes.{took, stopped}
use Rattle.ep_grammar.proofs.Classed.{within_list, not_also, out_front, out_end}
use Rattle.ep_grammar.proofs.Static.{both, any, only_if, nullable, nullable_inside, first, first_inside, guarded, Good, both_case}
use Rattle.ep_grammar.proofs.Checked.{good_rule, rule_first, rule_nullable, rule_guarded}
use Rattle.ep_grammar.proofs.Sorts.{there, sort_class}
use Rattle.ep_grammar.proofs.Complete.{if_false}

-- nothing is taken, or the token is refused
abbrev pub Passes : {X : Type 0} → Bool → ReadOutcome X → List Token → Type 0
Passes true o a = (x : _) × (o ≡ took x a)
Passes false o a = o ≡ stopped Syntax a

-- a level is left, or none is asked for without a test
abbrev pub Ready : {X : Type 0} → Option Inside → d.Syntax X → Type 0
Ready p s = any (there p) (guarded s) ≡ true

-- of a condition on two parts
pub any_both : (v a b : Bool) → any v (both a b) ≡ true → (any v a ≡ true) × (any v b ≡ true)
any_both true a b h = (refl, refl)
any_both false a b h = both_case a b h

any_true : (v : Bool) → any v true ≡ true
any_true true = refl
any_true false = refl

pub any_false : (v : Bool) → any v false ≡ true → v ≡ true
any_false true h = refl
any_false false h = absurd (cc)

passes_as : {X : Type 0} (v w : Bool) (o o' : ReadOutcome X) (a : List Token) → v ≡ w → o ≡ o' → Passes w o' a → Passes v o a
passes_as v w o o' a e f h = subst (λ z. Passes z o a) (sym e) (subst (λ z. Passes w z a) (sym f) h)

nothing_there : {X : Type 0} (o : Option X) (a : List Token) → there o ≡ false → taken o a ≡ stopped Syntax a
nothing_there None a h = refl
nothing_there (Some x) a h = absurd (cc)

passes_token : (s : Sort) (a : List Token) → has (classes s) (class_of a) ≡ false → read_token s a ≡ stopped Syntax a
passes_token s [] h = refl
passes_token s (t ∷ a) h = nothing_there (meaning s t.kind) (t ∷ a) (sort_class s t.kind ∙ h)

-- one after the other
passes_then : {A B : Type 0} (v w : Bool) (o : ReadOutcome A) (g : A → Parser B) (a : List Token) → Passes v o a → (v ≡ true → (x : A) → Passes w (g x a) a) → Passes (both v w) (and_then o g) a
passes_then true w o g a h k = subst (λ z. Passes w (and_then z g) a) (sym h.1) (k refl h.0)
passes_then false w o g a h k = ap (λ z. and_then z g) h

-- the second takes nothing
passes_on : {A B : Type 0} (v : Bool) (o : ReadOutcome A) (g : A → Parser B) (a : List Token) → Passes v o a → ((x : A) → (y : B) × (g x a ≡ took y a)) → Passes v (and_then o g) a
passes_on true o g a h k = ((k h.0).0, ap (λ z. and_then z g) h.1 ∙ (k h.0).1)
passes_on false o g a h k = ap (λ z. and_then z g) h

pub no_steps : {A B : Type 0} (cs : List Class) (p : Parser (Step A B)) (r : B) (n : ℕ) (found : List A) (a : List Token) → has cs (class_of a) ≡ false → steps cs p r n found a ≡ took (found, r) a
unfolding steps
no_steps cs p r zero found a h = refl
no_steps cs p r (suc n) found a h = if_false (has cs (class_of a)) _ (took (found, r) a) (took (found, r) a) h refl

passes_row : {A B : Type 0} (v : Bool) (xs ys cs : List Class) (o : ReadOutcome (List A)) (p : Parser (Step A B)) (r : B) (a : List Token) → within_list cs ys ≡ true → has (xs ++ only_if v ys) (class_of a) ≡ false → Passes v o a → Passes v (and_then o (λ found j. steps cs p r (length j) found j)) a
passes_row true xs ys cs o p r a w h k = passes_on true o (λ found j. steps cs p r (length j) found j) a k (λ found. ((found, r), no_steps cs p r (length a) found a (not_also cs ys (class_of a) w (out_end xs ys (class_of a) h))))
passes_row false xs ys cs o p r a w h k = ap (λ z. and_then z (λ found j. steps cs p r (length j) found j)) k

passes_within : {X : Type 0} (p : Option Inside) (cs : List Class) (q : Parser X) (a : List Token) → has cs (class_of a) ≡ false → (there p ≡ true → q a ≡ stopped Syntax a) → within p cs q a ≡ stopped Syntax a
passes_within None cs q a h k = ap (λ b. stopped (cause b) a) h
passes_within (Some e) cs q a h k = k refl

module _ (p : Option Inside) (ins : there p ≡ true → (n : Nonterminal) (a : List Token) → has (first_inside n) (class_of a) ≡ false → Passes (nullable_inside n) (read_inside p n a) a) where
  pub passes : {X : Type 0} (s : d.Syntax X) → Good s → Ready p s → (a : List Token) → has (first s) (class_of a) ≡ false → Passes (nullable s) (read p s a) a
  passes (give x) g r a h = (x, refl)
  passes (token s) g r a h = passes_token s a h
  passes line g r a h = (line_of a, refl)
  passes (inside n) g r a h = ins (any_false (there p) r) n a h
  passes (apply s t) g r a h =
      let u = any_both (there p) (guarded s) (guarded t) r in
      passes_then (nullable s) (nullable t) (read p s a) (λ f j. and_then (read p t j) (λ x k. took (f x) k)) a
      (passes s g.0 u.0 a (out_front (first s) (only_if (nullable s) (first t)) (class_of a) h))
      (λ v f. passes_on (nullable t) (read p t a) (λ x k. took (f x) k) a (passes t g.1 u.1 a (subst (λ z. has (only_if z (first t)) (class_of a) ≡ false) v (out_end (first s) (only_if (nullable s) (first t)) (class_of a) h))) (λ x. (f x, refl)))
  passes (either cs s t) g r a h =
      let u = any_both (there p) (guarded s) (guarded t) r in
      let k = not_also cs (first s) (class_of a) g.3.0 (out_front (first s) (first t) (class_of a) h) in
      passes_as (nullable t) (nullable t) (if has cs (class_of a) then read p s a else read p t a) (read p t a) a refl (if_false (has cs (class_of a)) (read p s a) (read p t a) (read p t a) k refl) (passes t g.1 u.1 a (out_end (first s) (first t) (class_of a) h))
  passes (switch cs s t) g r a h =
      let u = any_both (there p) (guarded s) (guarded t) r in
      passes_as (nullable t) (nullable t) (if has cs (class_of a) then read p s a else read p t a) (read p t a) a refl (if_false (has cs (class_of a)) (read p s a) (read p t a) (read p t a) (out_front cs (first t) (class_of a) h) refl) (passes t g.1 u.1 a (out_end cs (first t) (class_of a) h))
  passes (row s cs t r) g q a h =
      let u = any_both (there p) (guarded s) (guarded t) q in
      passes_row (nullable s) (first s) (first t) cs (read p s a) (read p t) r a g.3.0 h (passes s g.0 u.0 a (out_front (first s) (only_if (nullable s) (first t)) (class_of a) h))
  passes (deeper cs s) g r a h =
      passes_within p cs (read p s) a (not_also cs (first s) (class_of a) g.2.0 h) (λ v. subst (λ z. Passes z (read p s a) a) g.1 (passes s g.0 (ap (λ z. any z (guarded s)) v) a h))
  passes (shaped s f cs t k u o) g r a h =
      let w = any_both (there p) (guarded s) (both (guarded t) (guarded u)) r in
      ap (λ z. and_then z (λ y j. if has cs (class_of j) then by_shape (f y) (read p t) (by_shape (k y) (read p u) refused) j else by_shape (k y) (read p u) refused j)) (subst (λ z. Passes z (read p s a) a) g.3 (passes s g.0 w.0 a h))

-- what is guarded is ready at each number of levels
pub ready : {X : Type 0} (k : ℕ) (s : d.Syntax X) → guarded s ≡ true → Ready (inside_at k) s
ready k s h = subst (λ z. any (there (inside_at k)) z ≡ true) (sym h) (any_true (there (inside_at k)))

ready_inside : (k : ℕ) → there (inside_at k) ≡ true → (n : Nonterminal) (a : List Token) → has (first_inside n) (class_of a) ≡ false → Passes (nullable_inside n) (read_inside (inside_at k) n a) a
unfolding inside_at
ready_inside zero v n a h = absurd (cc)
ready_inside (suc k) v n a h =
    subst (λ z. Passes z (read (inside_at k) (rule n) a) a) (rule_nullable n) (passes (inside_at k) (ready_inside k) (rule n) (good_rule n) (ready k (rule n) (rule_guarded n)) a (not_also (first (rule n)) (first_inside n) (class_of a) (rule_first n) h))

-- at each number of levels
pub passes_at : (k : ℕ) {X : Type 0} (s : d.Syntax X) → Good s → Ready (inside_at k) s → (a : List Token) → has (first s) (class_of a) ≡ false → Passes (nullable s) (read (inside_at k) s a) a
passes_at k s g r a h = passes (inside_at k) (ready_inside k) s g r a h
