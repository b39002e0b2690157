-- Lists that are taken apart from their ends.
use Rattle.std.proofs.Common.{◌≡◌, List, [], ◌∷◌, ◌++◌, Option, Some, None, refl, sym, ap, ◌∙◌, append_assoc, reverse, length, length-append, ◌<◌, arith}
use Rattle.std.proofs.lemmas.List.{reverse-append, append-nil}
use Rattle.ep_tree.specs.Shapes.{added, all_of}

abbrev pub followed : {A : Type 0} → Option (List A) → List A → Option (List A)
followed None ys = None
followed (Some xs) ys = Some (xs ++ ys)

pub turn : {A : Type 0} (found old new : List A) (x : A) → old ≡ new ++ x ∷ [] → found ++ reverse old ≡ (found ++ x ∷ []) ++ reverse new
turn found old new x e = ap (λ w. found ++ reverse w) e ∙ ap (λ w. found ++ w) (reverse-append new (x ∷ [])) ∙ sym (append_assoc found (x ∷ []) (reverse new))

pub turned_all : {A : Type 0} (found old : List A) → old ≡ [] → found ++ reverse old ≡ found
turned_all found old e = ap (λ w. found ++ reverse w) e ∙ append-nil found

added_followed : {A : Type 0} (o : Option A) (p : Option (List A)) (r : List A) → followed (added o p) r ≡ added o (followed p r)
added_followed None None r = refl
added_followed None (Some p) r = refl
added_followed (Some x) None r = refl
added_followed (Some x) (Some p) r = refl

last_given : {A B : Type 0} (f : A → Option B) (xs : List A) (x : A) (y : B) (r : List B) → f x ≡ Some y → followed (all_of f (xs ++ x ∷ [])) r ≡ followed (all_of f xs) (y ∷ r)
unfolding all_of
last_given f [] x y r e = ap (λ o. followed (added o (Some [])) r) e
last_given f (z ∷ xs) x y r e = added_followed (f z) (all_of f (xs ++ x ∷ [])) r ∙ ap (added (f z)) (last_given f xs x y r e) ∙ sym (added_followed (f z) (all_of f xs) (y ∷ r))

abbrev nothing : {A : Type 0} → Option (List A)
nothing = None

added_none : {A : Type 0} (o : Option A) → added o nothing ≡ nothing
added_none None = refl
added_none (Some x) = refl

last_none : {A B : Type 0} (f : A → Option B) (xs : List A) (x : A) → f x ≡ None → all_of f (xs ++ x ∷ []) ≡ None
unfolding all_of
last_none f [] x e = ap (λ o. added o (Some [])) e
last_none f (z ∷ xs) x e = ap (added (f z)) (last_none f xs x e) ∙ added_none (f z)

-- one more item is taken off, and what it gives is kept
pub given : {A B : Type 0} (f : A → Option B) (old new : List A) (x : A) (y : B) (found : List B) → old ≡ new ++ x ∷ [] → Some y ≡ f x → followed (all_of f old) (reverse found) ≡ followed (all_of f new) (reverse (found ++ y ∷ []))
given f old new x y found e g = ap (λ w. followed (all_of f w) (reverse found)) e ∙ last_given f new x y (reverse found) (sym g) ∙ ap (followed (all_of f new)) (sym (reverse-append found (y ∷ [])))

pub given_none : {A B : Type 0} (f : A → Option B) (old new : List A) (x : A) (r : List B) → old ≡ new ++ x ∷ [] → None ≡ f x → followed (all_of f old) r ≡ None
given_none f old new x r e g = ap (λ w. followed (all_of f w) r) e ∙ ap (λ o. followed o r) (last_none f new x (sym g))

pub given_all : {A B : Type 0} (f : A → Option B) (old : List A) (r : List B) → old ≡ [] → followed (all_of f old) r ≡ Some r
unfolding all_of
given_all f old r e = ap (λ w. followed (all_of f w) r) e

none_more : {B : Type 0} (o : Option (List B)) → o ≡ followed o []
none_more None = refl
none_more (Some ys) = ap Some (sym (append-nil ys))

pub given_first : {A B : Type 0} (f : A → Option B) (xs : List A) → all_of f xs ≡ followed (all_of f xs) []
given_first f xs = none_more (all_of f xs)

pub shorter : {A : Type 0} (old new : List A) (x : A) → old ≡ new ++ x ∷ [] → length new < length old
shorter old new x e = omega (arith, ap length e, length-append new (x ∷ []))

pub ruleset back = (turn, turned_all, given, given_none, given_all, given_first, shorter)
