-- What a description says of the levels that its derivations take: each takes as many as a relation to what is derived says.
use Rattle.std.proofs.Common.{◌≡◌, ℕ, suc, max, Bool, true, false, List, [], ◌∷◌, ◌++◌, map, Option, Some, None, refl, sym, ap, ◌∙◌, subst, arith, inl, inr}
use Rattle.ep_token.specs.declared.token.Token.{Token}
use Rattle.ep_tree.specs.Nesting.{most_of}
use Rattle.ep_grammar.specs.Classes.{Class}
use Rattle.ep_grammar.specs.Descriptions.{Nonterminal, Step, More, Last, AlwaysOne, Syntax, give, token, line, inside, apply, either, switch, row, deeper, shaped, optional, first_of_pair, single, item_or_end, many, some, separated, closed, ◌<*◌}
use Rattle.ep_grammar.specs.Derived.{Steps, no_step, last_step, one_step, derives}
use Rattle.ep_levels.proofs.Depth.{Families, height, depth, steps_depth}

-- Each derivation by the description takes as many levels as the relation says of what it derives.
pub record Measures {X : Type 0} (s : Syntax X) (R : X → ℕ → Type 0) : Type 1 where
  pub holds : (e : Families) (a b : List Token) (x : X) (d : derives e s a b x) → R x (depth e s a b x d)

-- ---- relations between what is derived and a number of levels

-- as many as is computed of it
abbrev pub Is : {X : Type 0} → (X → ℕ) → X → ℕ → Type 0
Is f x n = n ≡ f x

-- one less than is computed of it, since that counts a level of its own
abbrev pub Under : {X : Type 0} → (X → ℕ) → X → ℕ → Type 0
Under f x n = suc n ≡ f x

-- none
abbrev pub Free : {X : Type 0} → X → ℕ → Type 0
Free x n = n ≡ 0

-- a function: as many as its value, whatever it is of
abbrev pub Over : {A X : Type 0} → (X → ℕ → Type 0) → (A → X) → ℕ → Type 0
Over R f n = (y : _) → R (f y) n

-- a function of what takes levels as the first relation says: with these its value takes as many as the second says
abbrev pub To : {A X : Type 0} → (A → ℕ → Type 0) → (X → ℕ → Type 0) → (A → X) → ℕ → Type 0
To P R f n = (y : _) (m : ℕ) → P y m → R (f y) (max n m)

-- ---- the forms of a description

-- nothing, which means this
pub given : {X : Type 0} {y : X} {R : X → ℕ → Type 0} → R y 0 → Measures (give y) R
unfolding depth
given {X} {y} {R} h = record { holds = λ e a b x d. subst (λ z. R z 0) (sym d.1) h }

-- one after the other
pub part : {A X : Type 0} {s : Syntax (A → X)} {t : Syntax A} {P : A → ℕ → Type 0} {R : X → ℕ → Type 0} → Measures t P → Measures s (To P R) → Measures (apply s t) R
unfolding depth
part {A} {X} {s} {t} {P} {R} q p = record { holds = λ e a b x d. subst (λ z. R z (max (depth e s a d.0 d.1 d.3) (depth e t d.0 b d.2 d.4))) (sym d.5) (p.holds e a d.0 d.1 d.3 d.2 (depth e t d.0 b d.2 d.4) (q.holds e d.0 b d.2 d.4)) }

-- nothing more
with_none : (n m : ℕ) → m ≡ 0 → n ≡ max n m
with_none n m h = omega arith

-- one after the other, of which the second takes no level
pub over : {A X : Type 0} {s : Syntax (A → X)} {t : Syntax A} {R : X → ℕ → Type 0} → Measures t Free → Measures s (Over R) → Measures (apply s t) R
over {A} {X} {s} {t} {R} q p = part q (record { holds = λ e a b f d. λ y m h. subst (R (f y)) (with_none (depth e s a b f d) m h) (p.holds e a b f d y) })

-- nothing before
pub from_none : (n : ℕ) → n ≡ max 0 n
from_none n = omega arith

-- one after the other, of which the second takes no level and means nothing
pub before : {A X : Type 0} {s : Syntax X} {t : Syntax A} {R : X → ℕ → Type 0} → Measures t Free → Measures s R → Measures (s <* t) R
before {A} {X} {s} {t} {R} q p = over q (part p (given (λ y m h z. subst (R y) (from_none m) h)))

-- the one or the other
either_cases : {X : Type 0} (cs : List Class) {s t : Syntax X} {R : X → ℕ → Type 0} → Measures s R → Measures t R → (e : Families) (a b : List Token) (x : X) (d : derives e (either cs s t) a b x) → R x (depth e (either cs s t) a b x d)
unfolding depth
either_cases cs p q e a b x (inl w) = p.holds e a b x w
either_cases cs p q e a b x (inr w) = q.holds e a b x w

-- the one or the other
pub one_of : {X : Type 0} {cs : List Class} {s t : Syntax X} {R : X → ℕ → Type 0} → Measures s R → Measures t R → Measures (either cs s t) R
one_of {X} {cs} p q = record { holds = either_cases cs p q }

-- the one or the other, by the next token
switch_cases : {X : Type 0} (cs : List Class) {s t : Syntax X} {R : X → ℕ → Type 0} → Measures s R → Measures t R → (e : Families) (a b : List Token) (x : X) (d : derives e (switch cs s t) a b x) → R x (depth e (switch cs s t) a b x d)
unfolding depth
switch_cases cs p q e a b x (inl w) = p.holds e a b x w.1
switch_cases cs p q e a b x (inr w) = q.holds e a b x w.1

-- the one or the other, by the next token
pub by_class : {X : Type 0} {cs : List Class} {s t : Syntax X} {R : X → ℕ → Type 0} → Measures s R → Measures t R → Measures (switch cs s t) R
by_class {X} {cs} p q = record { holds = switch_cases cs p q }

-- a parser's test of the levels adds none
pub behind : {X : Type 0} {cs : List Class} {s : Syntax X} {R : X → ℕ → Type 0} → Measures s R → Measures (deeper cs s) R
unfolding depth
behind p = record { holds = p.holds }

-- what stands one level deeper
pub within : (n : Nonterminal) → Measures (inside n) (Is (height n))
unfolding depth
within n = record { holds = λ e a b x d. refl }

-- the one or the other, by what comes first
shaped_cases : {A C D X : Type 0} (s : Syntax A) (f : A → Option C) (cs : List Class) (t : Syntax (C → X)) (g : A → Option D) (u : Syntax (D → X)) (o : AlwaysOne f g) {P : A → ℕ → Type 0} {Q : C → ℕ → Type 0} {Q' : D → ℕ → Type 0} (R : X → ℕ → Type 0) → Measures s P → ((y : A) (c : C) (n : ℕ) → f y ≡ Some c → P y n → Q c n) → Measures t (To Q R) → ((y : A) (c : D) (n : ℕ) → g y ≡ Some c → P y n → Q' c n) → Measures u (To Q' R) → (e : Families) (a b : List Token) (x : X) (d : derives e (shaped s f cs t g u o) a b x) → R x (depth e (shaped s f cs t g u o) a b x d)
unfolding depth
shaped_cases s f cs t g u o R p i q j r e a b x (m, y, d, inl w) = subst (λ z. R z (max (depth e t m b w.1 w.3) (depth e s a m y d))) (sym w.4) (q.holds e m b w.1 w.3 w.0 (depth e s a m y d) (i y w.0 (depth e s a m y d) w.2 (p.holds e a m y d)))
shaped_cases s f cs t g u o R p i q j r e a b x (m, y, d, inr w) = subst (λ z. R z (max (depth e u m b w.1 w.3) (depth e s a m y d))) (sym w.4) (r.holds e m b w.1 w.3 w.0 (depth e s a m y d) (j y w.0 (depth e s a m y d) w.2 (p.holds e a m y d)))

-- the one or the other, by what comes first: the relations of the two shapes follow from its own
pub by_shape : {A C D X : Type 0} {s : Syntax A} {f : A → Option C} {cs : List Class} {t : Syntax (C → X)} {g : A → Option D} {u : Syntax (D → X)} {o : AlwaysOne f g} {P : A → ℕ → Type 0} {Q : C → ℕ → Type 0} {Q' : D → ℕ → Type 0} {R : X → ℕ → Type 0} → Measures s P → ((y : A) (c : C) (n : ℕ) → f y ≡ Some c → P y n → Q c n) → Measures t (To Q R) → ((y : A) (c : D) (n : ℕ) → g y ≡ Some c → P y n → Q' c n) → Measures u (To Q' R) → Measures (shaped s f cs t g u o) R
by_shape {s = s} {f} {cs} {t} {g} {u} {o} {R = R} p i q j r = record { holds = shaped_cases s f cs t g u o R p i q j r }

-- ---- rows

-- the greatest number of an item's
abbrev pub most : {A : Type 0} → (A → ℕ) → List A → ℕ
most f xs = most_of (map f xs)

-- what an item of a row takes, and what ends a row takes nothing
abbrev pub Each : {A B : Type 0} → (A → ℕ) → Step A B → ℕ → Type 0
Each f (More x) n = n ≡ f x
Each f (Last q) n = n ≡ 0

-- the greatest number in two lists
most_append : {A : Type 0} (f : A → ℕ) (xs ys : List A) → most f (xs ++ ys) ≡ max (most f xs) (most f ys)
most_append f [] ys = omega arith
most_append f (x ∷ xs) ys = omega (arith, most_append f xs ys)

-- the steps of a row take as many as their items
steps_most : {A B : Type 0} {D : List Token → List Token → Step A B → Type 0} {r : B} (f : A → ℕ) (g : (a b : List Token) (x : Step A B) → D a b x → ℕ) → ((a b : List Token) (x : Step A B) (d : D a b x) → Each f x (g a b x d)) → {a b : List Token} {xs : List A} {q : B} (w : Steps D r a b xs q) → steps_depth g w ≡ most f xs
unfolding steps_depth
steps_most f g h no_step = refl
steps_most f g h (last_step {a} {b} {q} d) = h a b (Last q) d
steps_most f g h (one_step {a} {m} {b} {x} {xs} {q} d ds) = let u = h a m (More x) d in let v = steps_most f g h ds in omega (arith, u, v)

-- the items of a row are those before the steps and those of the steps
row_most : {A B : Type 0} (f : A → ℕ) (n m : ℕ) (xs ys : List A) (q : B) (p : List A × B) → p ≡ (xs ++ ys, q) → n ≡ most f xs → m ≡ most f ys → max n m ≡ most f p.0
row_most f n m xs ys q p e h i = ap (λ w. max n w) i ∙ ap (λ w. max w (most f ys)) h ∙ sym (most_append f xs ys) ∙ ap (λ w. most f w.0) (sym e)

-- a row takes as many as its items
pub items : {A B : Type 0} {s : Syntax (List A)} {cs : List Class} {t : Syntax (Step A B)} {r : B} {f : A → ℕ} → Measures s (Is (most f)) → Measures t (Each f) → Measures (row s cs t r) (λ p n. n ≡ most f p.0)
unfolding depth
items {A} {B} {s} {cs} {t} {r} {f} p q = record { holds = λ e a b x d. row_most f (depth e s a d.0 d.1 d.4) (steps_depth (λ a b x w. depth e t a b x w) d.5) d.1 d.2 d.3 x d.6 (p.holds e a d.0 d.1 d.4) (steps_most f (λ a b x w. depth e t a b x w) (λ a b x w. q.holds e a b x w) d.5) }

-- the items of a row, without what ends it
pub first_items : {A B : Type 0} {s : Syntax (List A)} {cs : List Class} {t : Syntax (Step A B)} {r : B} {f : A → ℕ} → Measures s (Is (most f)) → Measures t (Each f) → Measures (apply (give first_of_pair) (row s cs t r)) (Is (most f))
first_items {f = f} p q = part (items p q) (given (λ y m h. omega arith))

-- ---- the shorthands

-- the number of what is there, or 0
abbrev pub there : {A : Type 0} → (A → ℕ) → Option A → ℕ
there f None = 0
there f (Some x) = f x

-- what may be left out
pub perhaps : {X : Type 0} {cs : List Class} {s : Syntax X} {f : X → ℕ} → Measures s (Is f) → Measures (optional cs s) (Is (there f))
perhaps p = one_of (part p (given (λ y m h. omega arith))) (given refl)

-- with another relation, which follows
pub so : {X : Type 0} {s : Syntax X} {P R : X → ℕ → Type 0} → Measures s P → ((x : X) (n : ℕ) → P x n → R x n) → Measures s R
so {s = s} p i = record { holds = λ e a b x d. i x (depth e s a b x d) (p.holds e a b x d) }

-- ---- what takes no level

-- whether both hold
abbrev both : Bool → Bool → Bool
both true b = b
both false b = false

-- whether nothing may stand one level deeper
abbrev pub light : {X : Type 0} → Syntax X → Bool
light (give x) = true
light (token s) = true
light line = true
light (inside n) = false
light (apply s t) = both (light s) (light t)
light (either cs s t) = both (light s) (light t)
light (switch cs s t) = both (light s) (light t)
light (row s cs t r) = both (light s) (light t)
light (deeper cs s) = light s
light (shaped s f cs t g u o) = both (light s) (both (light t) (light u))

-- both hold
both_are : (a b : Bool) → both a b ≡ true → (a ≡ true) × (b ≡ true)
both_are true b h = (refl, h)
both_are false b h = absurd (cc)

-- steps that take no level
steps_light : {A B : Type 0} {D : List Token → List Token → Step A B → Type 0} {r : B} (g : (a b : List Token) (x : Step A B) → D a b x → ℕ) → ((a b : List Token) (x : Step A B) (d : D a b x) → g a b x d ≡ 0) → {a b : List Token} {xs : List A} {q : B} (w : Steps D r a b xs q) → steps_depth g w ≡ 0
unfolding steps_depth
steps_light g h no_step = refl
steps_light g h (last_step {a} {b} {q} d) = h a b (Last q) d
steps_light g h (one_step {a} {m} {b} {x} {xs} {q} d ds) = let u = h a m (More x) d in let v = steps_light g h ds in omega (arith, u, v)

-- such a derivation takes no level
light_depth : (e : Families) {X : Type 0} (s : Syntax X) → light s ≡ true → (a b : List Token) (x : X) (d : derives e s a b x) → depth e s a b x d ≡ 0
unfolding depth
light_depth e (give y) l a b x d = refl
light_depth e (token s) l a b x d = refl
light_depth e line l a b x d = refl
light_depth e (inside n) l a b x d = absurd (cc)
light_depth e (apply s t) l a b x d = let u = both_are (light s) (light t) l in omega (arith, light_depth e s u.0 a d.0 d.1 d.3, light_depth e t u.1 d.0 b d.2 d.4)
light_depth e (either cs s t) l a b x (inl w) = light_depth e s (both_are (light s) (light t) l).0 a b x w
light_depth e (either cs s t) l a b x (inr w) = light_depth e t (both_are (light s) (light t) l).1 a b x w
light_depth e (switch cs s t) l a b x (inl w) = light_depth e s (both_are (light s) (light t) l).0 a b x w.1
light_depth e (switch cs s t) l a b x (inr w) = light_depth e t (both_are (light s) (light t) l).1 a b x w.1
light_depth e (row s cs t r) l a b x d = let u = both_are (light s) (light t) l in omega (arith, light_depth e s u.0 a d.0 d.1 d.4, steps_light (λ a b x w. depth e t a b x w) (λ a b x w. light_depth e t u.1 a b x w) d.5)
light_depth e (deeper cs s) l a b x d = light_depth e s l a b x d
light_depth e (shaped s f cs t g u o) l a b x (m, y, d, inl w) = let v = both_are (light s) (both (light t) (light u)) l in omega (arith, light_depth e s v.0 a m y d, light_depth e t (both_are (light t) (light u) v.1).0 m b w.1 w.3)
light_depth e (shaped s f cs t g u o) l a b x (m, y, d, inr w) = let v = both_are (light s) (both (light t) (light u)) l in omega (arith, light_depth e s v.0 a m y d, light_depth e u (both_are (light t) (light u) v.1).1 m b w.1 w.3)

-- what is light takes no level
pub lightly : {X : Type 0} {s : Syntax X} → light s ≡ true → Measures s Free
lightly {s = s} l = record { holds = λ e a b x d. light_depth e s l a b x d }

-- ---- rows with separators

-- as many as there are
pub all_many : {A : Type 0} {cs : List Class} {s : Syntax A} {f : A → ℕ} → Measures s (Is f) → Measures (many cs s) (Is (most f))
all_many p = first_items (given refl) (part p (given (λ y m h. omega arith)))

-- the first of a row
pub one_item : {A : Type 0} {s : Syntax A} {f : A → ℕ} → Measures s (Is f) → Measures (apply (give single) s) (Is (most f))
one_item p = part p (given (λ y m h. omega arith))

-- one or more
pub all_some : {A : Type 0} {cs : List Class} {s : Syntax A} {f : A → ℕ} → Measures s (Is f) → Measures (some cs s) (Is (most f))
all_some p = first_items (one_item p) (part p (given (λ y m h. omega arith)))

-- one or more, with a symbol between them
pub all_separated : {A : Type 0} {n : ℕ} {s : Syntax A} {f : A → ℕ} → Measures s (Is f) → Measures (separated n s) (Is (most f))
all_separated p = first_items (one_item p) (part p (over (lightly refl) (given (λ u y m h. omega arith))))

-- a step that is an item after a semicolon, or a semicolon at the end
pub each_or_end : {A : Type 0} {cs : List Class} {s : Syntax A} {f : A → ℕ} → Measures s (Is f) → Measures (item_or_end cs s) (Each f)
each_or_end {f = f} p = part (one_of (part p (given (λ y m h. let e : max 0 m ≡ f y = omega arith in e))) (given refl)) (over (lightly refl) (given (λ u y m h. subst (Each f y) (from_none m) h)))

-- one or more, with semicolons between them and perhaps at the end
pub all_closed : {A : Type 0} {cs : List Class} {s : Syntax A} {f : A → ℕ} → Measures s (Is f) → Measures (closed cs s) (Is (most f))
all_closed p = first_items (one_item p) (each_or_end p)

-- what stands before it means nothing
pub kept : {A X : Type 0} {u : Syntax A} {t : Syntax X} {R : X → ℕ → Type 0} → Measures u Free → Measures t R → Measures (apply (give (λ x. x) <* u) t) R
kept {R = R} p q = part q (before p (given (λ y m h. subst (R y) (from_none m) h)))

-- ---- one level more for each

-- one level more for what is there and for what stands beside it
pub there_more : {A : Type 0} (f : A → ℕ) (n : ℕ) (o : Option A) → max (suc n) (there (λ x. suc (f x)) o) ≡ suc (max n (there f o))
there_more f n None = omega arith
there_more f n (Some x) = omega arith

-- the same beside many
pub most_more : {A : Type 0} (f : A → ℕ) (n : ℕ) (xs : List A) → max (suc n) (most (λ x. suc (f x)) xs) ≡ suc (max n (most f xs))
most_more f n [] = omega arith
most_more f n (x ∷ xs) = omega (arith, most_more f n xs)

-- what has the one shape is the same
pub same_shape : {A : Type 0} (P : A → ℕ → Type 0) (y c : A) (n : ℕ) → Some y ≡ Some c → P y n → P c n
same_shape P y c n e h = let i : y ≡ c = cc in subst (λ z. P z n) i h
