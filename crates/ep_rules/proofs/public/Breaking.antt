-- A rule that fails in a part fails in the whole.
use Rattle.std.proofs.Common.{◌≡◌, ℕ, nat_eq, Bool, true, false, ◌||◌, List, [], ◌∷◌, ◌++◌, Result, Err, refl}
use Rattle.std.specs.List.{list_any}
use Rattle.std.specs.Result.{IsErrAnd}
use Rattle.std.proofs.lemmas.Result.{err_from_is_err_and}
use Rattle.ep_rules.specs.Answers.{AnswersJudged, AnswersTyped}
use Rattle.ep_rules.specs.Judgements.{Judged, Accepts, Breaks, Typed, breaks, both, when_accepted}
use Rattle.ep_rules.specs.declared.forms.Typed as code
use Rattle.ep_rules.specs.declared.forms.Refusal.{Refusal}
use Rattle.ep_rules.specs.declared.forms.Refusal.TheVariants.{Rule, NoMemory}

module _ (n : ℕ) where
  -- the rule is in the list
  abbrev pub IsIn : List ℕ → Type 0
  IsIn rules = list_any (nat_eq n) rules ≡ true

  or-second : (a b : Bool) → b ≡ true → (a || b) ≡ true
  or-second true b e = refl
  or-second false b e = e

  or-cases : (a b : Bool) (c : Bool) → (a || b) ≡ true → (b ≡ true → c ≡ true) → (a || c) ≡ true
  or-cases true b c e f = refl
  or-cases false b c e f = f e

  pub IsIn-first : (xs ys : List ℕ) → IsIn xs → IsIn (xs ++ ys)
  IsIn-first [] ys h = cc
  IsIn-first (x ∷ xs) ys h = or-cases (nat_eq n x) (list_any (nat_eq n) xs) (list_any (nat_eq n) (xs ++ ys)) h (IsIn-first xs ys)

  pub IsIn-second : (xs ys : List ℕ) → IsIn ys → IsIn (xs ++ ys)
  IsIn-second [] ys h = h
  IsIn-second (x ∷ xs) ys h = or-second (nat_eq n x) (list_any (nat_eq n) (xs ++ ys)) (IsIn-second xs ys h)

  module _ {A B C : Type 0} (f : A → B → Judged C) where
    pub both-first : (a : Judged A) (b : Judged B) → breaks n a ≡ true → breaks n (both f a b) ≡ true
    both-first (Accepts a) b h = cc
    both-first (Breaks rules) (Accepts b) h = h
    both-first (Breaks rules) (Breaks more) h = IsIn-first rules more h

    pub both-second : (a : Judged A) (b : Judged B) → breaks n b ≡ true → breaks n (both f a b) ≡ true
    both-second a (Accepts b) h = cc
    both-second (Accepts a) (Breaks more) h = h
    both-second (Breaks rules) (Breaks more) h = IsIn-second rules more h

  pub when_accepted-part : {A B : Type 0} (f : A → Judged B) (a : Judged A) → breaks n a ≡ true → breaks n (when_accepted f a) ≡ true
  when_accepted-part f (Accepts a) h = cc
  when_accepted-part f (Breaks rules) h = h

-- a refusal of a part is one of the whole, of whatever they are
part-within : {T U A B : Type 0} (v : T → A) (w : U → B) (J : Judged A) (K : Judged B) → ((n : ℕ) → breaks n J ≡ true → breaks n K ≡ true) → (e : Refusal) → AnswersJudged v (Err e) J → AnswersJudged w (Err e) K
part-within v w J K f (Rule n) h = f n h
part-within v w J K f NoMemory h = tt

pub part-exit : {T U A B : Type 0} (v : T → A) (w : U → B) (r : Result U Refusal) (e : Refusal) (J : Judged A) (K : Judged B) → IsErrAnd r (λ x. x ≡ e) → ((n : ℕ) → breaks n J ≡ true → breaks n K ≡ true) → AnswersJudged v (Err e) J → AnswersJudged w r K
part-exit v w r e J K is f h = let p = err_from_is_err_and r is in rw (p.1, p.2) (part-within v w J K f e h)

-- alike, of typed forms
pub refused-within : (J K : Judged Typed) → ((n : ℕ) → breaks n J ≡ true → breaks n K ≡ true) → (e : Refusal) → AnswersTyped (Err e) J → AnswersTyped (Err e) K
refused-within J K f (Rule n) h = f n h
refused-within J K f NoMemory h = tt

-- what a call hands on of a refusal in a part
pub refused-exit : (r : Result code.Typed Refusal) (e : Refusal) (J K : Judged Typed) → IsErrAnd r (λ x. x ≡ e) → ((n : ℕ) → breaks n J ≡ true → breaks n K ≡ true) → AnswersTyped (Err e) J → AnswersTyped r K
refused-exit r e J K is f h = let p = err_from_is_err_and r is in rw (p.1, p.2) (refused-within J K f e h)
