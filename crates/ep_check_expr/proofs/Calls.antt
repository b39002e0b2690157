-- Calls of required functions.
use Rattle.std.proofs.Common.{◌≡◌, ◌≤◌, ◌<◌, ℕ, true, false, List, [], ◌∷◌, ◌++◌, get_or, length, None, Result, Err, refl, sym, ap, ◌∙◌, arith}
use Rattle.std.specs.Result.{IsErrAnd}
use Rattle.std.proofs.lemmas.Result.{err_from_is_err_and}
use Rattle.ep_scope.specs.declared.required.Function.{Function}
use Rattle.ep_rules.proofs.public.Breaking.{IsIn, IsIn-first, IsIn-second}
use Rattle.ep_rules.specs.Answers.{AnswersJudged, AnswersTyped, AnswersGiven}
use Rattle.ep_rules.specs.declared.forms.Typed as code
use Rattle.ep_rules.specs.declared.forms.Refusal.{Refusal}
use Rattle.ep_rules.specs.declared.forms.Refusal.TheVariants.{Rule, NoMemory}
use Rattle.ep_rules.specs.Functions.{Given, given_faults, all_faults, applied, applied_one, applied_two, unless_faults, number_faults, takes, called, accepted}
use Rattle.ep_rules.specs.Judgements.{Judged, Accepts, Typed, breaks}

-- a list of one item, and of two
pub one-item : {A : Type 0} (xs : List A) (x : A) → 1 ≤ length xs → length xs < 2 → x ≡ get_or xs 0 x → xs ≡ x ∷ []
one-item [] x h g e = let none : ⊥ = omega (arith, h) in absurd none
one-item (y ∷ []) x h g e = ap (λ z. z ∷ []) (sym e)
one-item (y ∷ z ∷ zs) x h g e = let none : ⊥ = omega (arith, g) in absurd none

pub two-items : {A : Type 0} (xs : List A) (x y : A) → 2 ≤ length xs → length xs < 3 → x ≡ get_or xs 0 x → y ≡ get_or xs 1 y → xs ≡ x ∷ y ∷ []
two-items [] x y h g e f = let none : ⊥ = omega (arith, h) in absurd none
two-items (a ∷ []) x y h g e f = let none : ⊥ = omega (arith, h) in absurd none
two-items (a ∷ b ∷ []) x y h g e f = ap (λ z. z ∷ b ∷ []) (sym e) ∙ ap (λ z. x ∷ z ∷ []) (sym f)
two-items (a ∷ b ∷ c ∷ cs) x y h g e f = let none : ⊥ = omega (arith, g) in absurd none

-- calls whose arguments are accepted
pub applied-one : (f : Function) (g : Given) (x : Typed) → g.value ≡ Accepts x → g.width ≡ None → applied f (g ∷ []) ≡ applied_one f x
applied-one f g x v w = rw (v, w) refl

pub applied-two : (f : Function) (g h : Given) (x y : Typed) → takes f 2 ≡ true → g.value ≡ Accepts x → g.width ≡ None → h.value ≡ Accepts y → h.width ≡ None
    → applied f (g ∷ h ∷ []) ≡ applied_two f x y
applied-two f g h x y t v w v' w' = rw (v, w, v', w', t) refl

pub unless_faults-in : (n : ℕ) (rules : List ℕ) (J : Judged Typed) → IsIn n rules → breaks n (unless_faults rules J) ≡ true
unless_faults-in n [] J h = cc
unless_faults-in n (r ∷ rs) J h = h

-- a rule that fails in an argument
pub applied-fault : (n : ℕ) (f : Function) (gs : List Given) → IsIn n (all_faults gs) → breaks n (applied f gs) ≡ true
applied-fault n f gs h = unless_faults-in n (all_faults gs ++ number_faults (takes f (length gs))) (called f (accepted gs)) (IsIn-first n (all_faults gs) (number_faults (takes f (length gs))) h)

-- too few or too many arguments
pub applied-number : (f : Function) (gs : List Given) → takes f (length gs) ≡ false → breaks 37 (applied f gs) ≡ true
applied-number f gs h =
    unless_faults-in 37 (all_faults gs ++ number_faults (takes f (length gs))) (called f (accepted gs)) (IsIn-second 37 (all_faults gs) (number_faults (takes f (length gs))) (rw h refl))

-- a fault of the first argument, and of a later one
pub first-fault : (n : ℕ) (g : Given) (gs : List Given) → IsIn n (given_faults g) → IsIn n (all_faults (g ∷ gs))
first-fault n g gs h = IsIn-first n (given_faults g) (all_faults gs) h

pub later-fault : (n : ℕ) (g : Given) (gs : List Given) → IsIn n (all_faults gs) → IsIn n (all_faults (g ∷ gs))
later-fault n g gs h = IsIn-second n (given_faults g) (all_faults gs) h

given-refused : (g : Given) (K : Judged Typed) → ((n : ℕ) → IsIn n (given_faults g) → breaks n K ≡ true) → (e : Refusal) → AnswersGiven (Err e) g → AnswersTyped (Err e) K
given-refused g K f (Rule n) h = f n h
given-refused g K f NoMemory h = tt

fault-within : {U B : Type 0} (w : U → B) (g : Given) (K : Judged B) → ((n : ℕ) → IsIn n (given_faults g) → breaks n K ≡ true) → (e : Refusal) → AnswersGiven (Err e) g → AnswersJudged w (Err e) K
fault-within w g K f (Rule n) h = f n h
fault-within w g K f NoMemory h = tt

-- what is handed on of a refusal in an argument, of whatever takes it
pub given-exit : {U B : Type 0} (w : U → B) (r : Result U Refusal) (e : Refusal) (g : Given) (K : Judged B) → IsErrAnd r (λ x. x ≡ e) → ((n : ℕ) → IsIn n (given_faults g) → breaks n K ≡ true) → AnswersGiven (Err e) g → AnswersJudged w r K
given-exit w r e g K is f h = let p = err_from_is_err_and r is in rw (p.1, p.2) (fault-within w g K f e h)

-- what a call hands on of a refusal in an argument
pub fault-exit : (r : Result code.Typed Refusal) (e : Refusal) (g : Given) (K : Judged Typed) → IsErrAnd r (λ x. x ≡ e) → ((n : ℕ) → IsIn n (given_faults g) → breaks n K ≡ true) → AnswersGiven (Err e) g → AnswersTyped r K
fault-exit r e g K is f h = let p = err_from_is_err_and r is in rw (p.1, p.2) (given-refused g K f e h)
