-- What is given for formal parameters, gathered from one argument after another.
use Rattle.std.proofs.Common.{◌≡◌, ◌<◌, ℕ, true, suc, ◌+◌, max, List, [], ◌∷◌, ◌++◌, map, drop, length, get_or, Option, Some, None, refl, sym, ap, ap₂, ◌∙◌, append_assoc, arith}
use Rattle.ep_typed.specs.Trees.{Actual}
use Rattle.ep_scope.specs.declared.parameter.FormalParameter.{FormalParameter}
use Rattle.ep_rules.proofs.public.Breaking.{IsIn, both-first, both-second, when_accepted-part}
use Rattle.ep_check_expr.proofs.Calls.{unless_faults-in}
use Rattle.ep_check_expr.proofs.public.Rows.{left-cons}
use Rattle.ep_rules.specs.Arguments.{Taken, argument_judged, argument_taken, arguments_judged, joined}
use Rattle.ep_rules.specs.Functions.{Given, given_faults, unless_faults}
use Rattle.ep_rules.specs.Judgements.{Judged, Accepts, Breaks, Typed, both, breaks, when_accepted}
use Rattle.ep_rules.specs.Operators.{map_both}

-- what is given so far, and for the parameters that come
abbrev pub gathered : Taken → Judged Taken → Judged Taken
gathered found rest = when_accepted (λ more. Accepts (joined found more)) rest

lists_joined : (xs ys zs : Option (List Actual)) → map_both (λ us vs. us ++ vs) (map_both (λ us vs. us ++ vs) xs ys) zs ≡ map_both (λ us vs. us ++ vs) xs (map_both (λ us vs. us ++ vs) ys zs)
lists_joined None None None = refl
lists_joined None None (Some zs) = refl
lists_joined None (Some ys) None = refl
lists_joined None (Some ys) (Some zs) = refl
lists_joined (Some xs) None None = refl
lists_joined (Some xs) None (Some zs) = refl
lists_joined (Some xs) (Some ys) None = refl
lists_joined (Some xs) (Some ys) (Some zs) = ap Some (append_assoc xs ys zs)

deepest_of_three : (m n k : ℕ) → max (max m n) k ≡ max m (max n k)
deepest_of_three m n k = omega arith

-- what is given for parameters in three parts
joined_joined : (x y z : Taken) → joined (joined x y) z ≡ joined x (joined y z)
joined_joined x y z = ap₂ (λ a n. record { actuals = a; depth = n }) (lists_joined x.actuals y.actuals z.actuals) (deepest_of_three x.depth y.depth z.depth)

-- the argument that comes next
one_more : (found now : Taken) (one rest : Judged Taken) → gathered found one ≡ Accepts now → gathered found (both (λ x xs. Accepts (joined x xs)) one rest) ≡ gathered now rest
one_more found now (Accepts x) (Accepts more) e = let same : joined found x ≡ now = cc in ap Accepts (sym (joined_joined found x more) ∙ ap (λ t. joined t more) same)
one_more found now (Accepts x) (Breaks rules) e = refl
one_more found now (Breaks rules) rest e = cc

-- what is accepted of an argument without a width
plain_argument : (p : FormalParameter) (g : Given) (v : Typed) → g.value ≡ Accepts v → g.width ≡ None → argument_judged p g ≡ argument_taken p v
plain_argument p g v is w = rw (is, w) refl

-- there are more parameters or more arguments
pub other_number : (ps : List FormalParameter) (gs : List Given) → (length ps ≡ length gs → ⊥) → breaks 37 (arguments_judged ps gs) ≡ true
other_number [] [] h = absurd (h refl)
other_number [] (g ∷ gs) h = refl
other_number (p ∷ ps) [] h = refl
other_number (p ∷ ps) (g ∷ gs) h = both-second 37 (λ x xs. Accepts (joined x xs)) (argument_judged p g) (arguments_judged ps gs) (other_number ps gs (λ e. h (ap suc e)))

module _ {X : Type 0} (view : X → Given) (ps : List FormalParameter) (all : List X) (i : ℕ) (p : FormalParameter) (x : X) (within : i < length ps) (is : p ≡ get_or ps i p) (also : i < length all) (one : x ≡ get_or all i x) where
  -- what is left at a place
  abbrev left : ℕ → Judged Taken
  left n = arguments_judged (drop n ps) (map view (drop n all))

  next_argument : left i ≡ both (λ y ys. Accepts (joined y ys)) (argument_judged p (view x)) (left (i + 1))
  next_argument = ap (λ qs. arguments_judged qs (map view (drop i all))) (left-cons ps i p within is) ∙ ap (λ xs. arguments_judged (p ∷ drop (i + 1) ps) (map view xs)) (left-cons all i x also one)

  -- the turn of a loop
  pub turned : (found now : Taken) (v : Typed) → (view x).value ≡ Accepts v → (view x).width ≡ None → gathered found (argument_taken p v) ≡ Accepts now → gathered now (left (i + 1)) ≡ gathered found (left i)
  turned found now v value width e =
      sym (ap (gathered found) next_argument ∙ one_more found now (argument_judged p (view x)) (left (i + 1)) (ap (gathered found) (plain_argument p (view x) v value width) ∙ e))

  -- an argument in which a rule fails
  part_fails : (n : ℕ) (found : Taken) → breaks n (argument_judged p (view x)) ≡ true → breaks n (gathered found (left i)) ≡ true
  part_fails n found h =
      when_accepted-part n (λ more. Accepts (joined found more)) (left i) (rw next_argument (both-first n (λ y ys. Accepts (joined y ys)) (argument_judged p (view x)) (left (i + 1)) h))

  pub argument_fails : (n : ℕ) (found : Taken) → IsIn n (given_faults (view x)) → breaks n (gathered found (left i)) ≡ true
  argument_fails n found h =
      part_fails n found (when_accepted-part n (argument_taken p) (unless_faults (given_faults (view x)) (view x).value) (unless_faults-in n (given_faults (view x)) (view x).value h))

  -- a value that is not taken
  pub value_fails : (n : ℕ) (found : Taken) (v : Typed) → (view x).value ≡ Accepts v → (view x).width ≡ None → breaks n (gathered found (argument_taken p v)) ≡ true → breaks n (gathered found (left i)) ≡ true
  value_fails n found v value width h = part_fails n found (rw (plain_argument p (view x) v value width) (taken_part (argument_taken p v) h))
    where
      taken_part : (J : Judged Taken) → breaks n (gathered found J) ≡ true → breaks n J ≡ true
      taken_part (Accepts t) h = h
      taken_part (Breaks rules) h = h
