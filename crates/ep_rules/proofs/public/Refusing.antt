-- A rule that fails in a part fails in the whole: for the exits of the functions that judge parts.
use Rattle.std.proofs.Common.{◌≡◌, ℕ, nat_eq, Bool, true, ◌||◌, List, ◌++◌, Err, sym, ap, subst, ◌∙◌}
use Rattle.std.specs.Prelude.{IsTrue}
use Rattle.std.specs.List.{list_any}
use Rattle.std.proofs.lemmas.List.Folds.{list_any-append}
use Rattle.ep_rules.specs.Answers.{AnswersJudged}
use Rattle.ep_rules.specs.Judgements.{Judged, Accepts, Breaks, breaks, when_accepted, both}
use Rattle.ep_rules.specs.declared.forms.Refusal.{Refusal}
use Rattle.ep_rules.specs.declared.forms.Refusal.TheVariants.{Rule, NoMemory}
use Rattle.ep_rules.specs.Answers.{Refuses}

-- a test that passes in a front passes in the whole list
any_front : (p : ℕ → Bool) (xs ys : List ℕ) → list_any p xs ≡ true → list_any p (xs ++ ys) ≡ true
any_front p xs ys h = list_any-append p xs ys ∙ ap (λ b. b || list_any p ys) h

-- an answer is a refusal
pub from_judged : {T A : Type 0} (view : T → A) (e : Refusal) (j : Judged A) → AnswersJudged view (Err e) j → Refuses e j
from_judged view (Rule r) j h = h
from_judged view NoMemory j h = tt

pub to_judged : {T A : Type 0} (view : T → A) (e : Refusal) (j : Judged A) → Refuses e j → AnswersJudged view (Err e) j
to_judged view (Rule r) j h = h
to_judged view NoMemory j h = tt

-- the refusal of a part
pub first_refused : {A B C : Type 0} (f : A → B → Judged C) (e : Refusal) (x : Judged A) (y : Judged B) → Refuses e x → Refuses e (both f x y)
first_refused f NoMemory x y h = tt
first_refused f (Rule r) (Accepts a) y h = cc
first_refused f (Rule r) (Breaks rules) (Accepts b) h = h
first_refused f (Rule r) (Breaks rules) (Breaks more) h = any_front (nat_eq r) rules more h

pub second_refused : {A B C : Type 0} (f : A → B → Judged C) (e : Refusal) (x : Judged A) (y : Judged B) (a : A) → x ≡ Accepts a → Refuses e y → Refuses e (both f x y)
second_refused f NoMemory x y a is h = tt
second_refused f (Rule r) x (Accepts b) a is h = cc
second_refused f (Rule r) x (Breaks rules) a is h = subst (λ j. IsTrue (breaks r (both f j (Breaks rules)))) (sym is) h

-- the refusal of the only part, or of what is made of it
pub part_refused : {A B : Type 0} (f : A → Judged B) (e : Refusal) (x : Judged A) → Refuses e x → Refuses e (when_accepted f x)
part_refused f NoMemory x h = tt
part_refused f (Rule r) (Accepts a) h = cc
part_refused f (Rule r) (Breaks rules) h = h

pub rest_refused : {A B : Type 0} (f : A → Judged B) (e : Refusal) (x : Judged A) (a : A) → x ≡ Accepts a → Refuses e (f a) → Refuses e (when_accepted f x)
rest_refused f e x a is h = subst (λ j. Refuses e (when_accepted f j)) (sym is) h

pub both_refused : {A B C : Type 0} (f : A → B → Judged C) (e : Refusal) (x : Judged A) (y : Judged B) (a : A) (b : B) → x ≡ Accepts a → y ≡ Accepts b → Refuses e (f a b) → Refuses e (both f x y)
both_refused f e x y a b is also h = subst (λ j. Refuses e (both f j y)) (sym is) (subst (λ j. Refuses e (both f (Accepts a) j)) (sym also) h)

-- a refusal of what is the same
pub refused_same : {A : Type 0} (e : Refusal) {x y : Judged A} → x ≡ y → Refuses e x → Refuses e y
refused_same e is h = subst (Refuses e) is h

-- what is accepted of parts that are
pub both_accepted : {A B C : Type 0} (f : A → B → Judged C) (x : Judged A) (y : Judged B) (a : A) (b : B) → x ≡ Accepts a → y ≡ Accepts b → both f x y ≡ f a b
both_accepted f x y a b is also = ap (λ j. both f j y) is ∙ ap (λ j. both f (Accepts a) j) also

pub then_accepted : {A B : Type 0} (f : A → Judged B) (x : Judged A) (a : A) → x ≡ Accepts a → when_accepted f x ≡ f a
then_accepted f x a is = ap (when_accepted f) is
