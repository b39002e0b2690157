-- Each token that is read has a mark.
use Rattle.std.proofs.Common.{replicate, ◌≡◌, ℕ, zero, suc, ◌+◌, ◌-◌, ◌≤◌, Bool, true, false, ◌&&◌, cond, ◌⊎◌, inl, inr, List, [], ◌∷◌, ◌++◌, length, Option, Some, None, Ok, refl, ap, ◌∙◌, arith, length-append, map}
use Rattle.std.proofs.lemmas.Grind.{common_steps}
use Rattle.ep_token.specs.declared.token.Token.{Token}
use Rattle.ep_grammar.specs.Classes.{Class, has, class_of, after_first}
use Rattle.ep_grammar.specs.Descriptions.{Nonterminal, Step, More, Last, Syntax, give, token, line, inside, apply}
use Rattle.ep_grammar.specs.Descriptions.{either, switch, row, deeper, shaped}
use Rattle.ep_grammar.specs.Reading.{Inside, ReadOutcome, Parser, and_then, taken, peek, steps, go_on, read_inside, by_shape, refused, read}
use Rattle.ep_grammar.specs.Reading.{within as level_within}
use Rattle.ep_grammar.proofs.public.Outcomes.{took, never, bind_ok, same_took}
use Rattle.ep_marks.specs.Styles.{Style, plain, within, part, choice, rows, level, shapes, starts, indents, given, fits}
use Rattle.ep_marks.specs.Marks.{Mark, no_mark, first_starting, deeper_mark, Family, unmarked, and_marks, by_step, step_marks, shape_marks, marks}

truth : (b : Bool) → (b ≡ true) ⊎ (b ≡ false)
truth true = inl refl
truth false = inr refl

and-parts : (a b : Bool) → (a && b) ≡ true → (a ≡ true) × (b ≡ true)
and-parts true b h = (refl, h)
and-parts false b h = absurd cc

no-fit : false ≡ true → ⊥
no-fit h = cc

length-replicate : (n : ℕ) (m : Mark) → length (replicate n m) ≡ n
length-replicate n m = grind (arith, common_steps)

length-map : (f : Mark → Mark) (ms : List Mark) → length (map f ms) ≡ length ms
length-map f [] = refl
length-map f (m ∷ ms) = omega (arith, length-map f ms)

length-first : (ms : List Mark) → length (first_starting ms) ≡ length ms
length-first [] = refl
length-first (m ∷ ms) = refl

-- ---- what is read is left behind

-- a parser leaves no more tokens than it was given
abbrev pub Shrinks : {A : Type 0} → Parser A → Type 0
Shrinks {A} p = (i : List Token) (x : A) (j : List Token) → p i ≡ took x j → length j ≤ length i

same-left : {A : Type 0} (x y : A) (i j : List Token) → took x i ≡ took y j → length j ≤ length i
same-left x y i j e = omega (arith, ap length (same_took e).1)

after-left : (i : List Token) → length (after_first i) ≤ length i
after-left [] = omega arith
after-left (t ∷ ts) = omega arith

taken-left : {A : Type 0} (o : Option A) (i : List Token) (x : A) (j : List Token) → taken o i ≡ took x j → length j ≤ length i
taken-left None i x j e = never e
taken-left (Some y) i x j e = omega (arith, ap length (same_took e).1, after-left i)

if-shrinks : {A : Type 0} (cs : List Class) (p q : Parser A) → Shrinks p → Shrinks q → Shrinks (λ i. cond (has cs (class_of i)) (p i) (q i))
if-shrinks cs p q h k i x j e =
    elim (truth (has cs (class_of i))) [
      | inl t ↦ h i x j (rw t at e)
      | inr t ↦ k i x j (rw t at e)
    ]

then-shrinks : {A B : Type 0} (p : Parser A) (f : A → Parser B) → Shrinks p → ((x : A) → Shrinks (f x)) → Shrinks (λ i. and_then (p i) f)
then-shrinks p f h k i x j e =
    let b = bind_ok (p i) f e in
    omega (arith, h i b.0 b.1 b.2, k b.0 b.1 x j b.3)

go-shrinks : {A B : Type 0} (cs : List Class) (step : Parser (Step A B)) (r : B) (n : ℕ) (found : List A) → ((more : List A) → Shrinks (steps cs step r n more)) → (v : Step A B) → Shrinks (go_on (steps cs step r n) found v)
go-shrinks cs step r n found h (More a) i x j e = h (found ++ a ∷ []) i x j e
go-shrinks cs step r n found h (Last q) i x j e = same-left _ x i j e

steps-shrink : {A B : Type 0} (cs : List Class) (step : Parser (Step A B)) (r : B) (n : ℕ) (found : List A) → Shrinks step → Shrinks (steps cs step r n found)
unfolding steps
steps-shrink cs step r zero found h i x j e = same-left _ x i j e
steps-shrink cs step r (suc n) found h i x j e =
    elim (truth (has cs (class_of i))) [
      | inl t ↦
          let b = bind_ok (step i) (go_on (steps cs step r n) found) (rw t at e) in
          omega (arith, h i b.0 b.1 b.2, go-shrinks cs step r n found (λ more. steps-shrink cs step r n more h) b.0 b.1 x j b.3)
      | inr t ↦ same-left _ x i j (rw t at e)
    ]

level-shrinks : {X : Type 0} (e : Option Inside) (cs : List Class) (p : Parser X) → Shrinks p → Shrinks (level_within e cs p)
level-shrinks None cs p h i x j is = never is
level-shrinks (Some e) cs p h i x j is = h i x j is

shape-shrinks : {C X : Type 0} (o : Option C) (p : Parser (C → X)) (q : Parser X) → Shrinks p → Shrinks q → Shrinks (by_shape o p q)
shape-shrinks None p q h k i x j e = k i x j e
shape-shrinks (Some c) p q h k i x j e = then-shrinks p (λ f m. Ok (f c, m)) h (λ f m y l is. same-left (f c) y m l is) i x j e

refused-shrinks : {X : Type 0} → Shrinks {A = X} refused
refused-shrinks i x j e = never e

pub read-shrinks : (e : Option Inside) → ((n : Nonterminal) → Shrinks (read_inside e n)) → {X : Type 0} (s : Syntax X) → Shrinks (read e s)
read-shrinks e h (give y) i x j is = same-left y x i j is
read-shrinks e h (token s) i x j is = taken-left (peek s i) i x j is
read-shrinks e h line i x j is = same-left _ x i j is
read-shrinks e h (inside n) i x j is = h n i x j is
read-shrinks e h (apply s t) i x j is =
    let b = bind_ok (read e s i) _ is in
    let c = bind_ok (read e t b.1) _ b.3 in
    omega (arith, read-shrinks e h s i b.0 b.1 b.2, read-shrinks e h t b.1 c.0 c.1 c.2, same-left _ x c.1 j c.3)
read-shrinks e h (either cs s t) i x j is = if-shrinks cs (read e s) (read e t) (read-shrinks e h s) (read-shrinks e h t) i x j is
read-shrinks e h (switch cs s t) i x j is = if-shrinks cs (read e s) (read e t) (read-shrinks e h s) (read-shrinks e h t) i x j is
read-shrinks e h (row s cs t r) i x j is =
    let b = bind_ok (read e s i) _ is in
    omega (arith, read-shrinks e h s i b.0 b.1 b.2, steps-shrink cs (read e t) r (length b.1) b.0 (read-shrinks e h t) b.1 x j b.3)
read-shrinks e h (deeper cs s) i x j is = level-shrinks e cs (read e s) (read-shrinks e h s) i x j is
read-shrinks e h (shaped s f cs t g u o) i x j is =
    let b = bind_ok (read e s i) _ is in
    let second = shape-shrinks (g b.0) (read e u) refused (read-shrinks e h u) refused-shrinks in
    let rest = if-shrinks cs (by_shape (f b.0) (read e t) (by_shape (g b.0) (read e u) refused)) (by_shape (g b.0) (read e u) refused)
    (shape-shrinks (f b.0) (read e t) (by_shape (g b.0) (read e u) refused) (read-shrinks e h t) second) second in
    omega (arith, read-shrinks e h s i b.0 b.1 b.2, rest b.1 x j b.3)

-- ---- what is read is marked

-- a mark for each token that a parser takes
abbrev pub Marked : {A : Type 0} → Parser A → (List Token → List Mark) → Type 0
Marked {A} p m = (i : List Token) (x : A) (j : List Token) → p i ≡ took x j → length (m i) + length j ≡ length i

unmarked-count : {A : Type 0} (o : ReadOutcome A) (i : List Token) (x : A) (j : List Token) → o ≡ took x j → length j ≤ length i → length (unmarked o i) + length j ≡ length i
unmarked-count o i x j e h =
    let n : length (unmarked o i) ≡ length i - length j = ap (λ r. length (unmarked r i)) e ∙ length-replicate (length i - length j) no_mark in
    omega arith

and-count : {A : Type 0} (first : List Mark) (o : ReadOutcome A) (f : A → List Token → List Mark) (x : A) (j : List Token) → o ≡ took x j → length (first ++ and_marks o f) ≡ length first + length (f x j)
and-count first o f x j e = length-append first (and_marks o f) ∙ ap (λ r. length first + length (and_marks r f)) e

if-marked : {A : Type 0} (cs : List Class) (p q : Parser A) (m n : List Token → List Mark) → Marked p m → Marked q n → Marked (λ i. cond (has cs (class_of i)) (p i) (q i)) (λ i. cond (has cs (class_of i)) (m i) (n i))
if-marked cs p q m n h k i x j e =
    elim (truth (has cs (class_of i))) [
      | inl t ↦ rw t (h i x j (rw t at e))
      | inr t ↦ rw t (k i x j (rw t at e))
    ]

given-marked : {A : Type 0} (cs : List Class) (p : Parser A) (m n : List Token → List Mark) → Marked p m → Marked p n → Marked p (λ i. cond (has cs (class_of i)) (m i) (n i))
given-marked cs p m n h k i x j e =
    elim (truth (has cs (class_of i))) [
      | inl t ↦ rw t (h i x j e)
      | inr t ↦ rw t (k i x j e)
    ]

go-marked : {A B : Type 0} (cs : List Class) (step : Parser (Step A B)) (r : B) (mark : List Token → List Mark) (n : ℕ) (found : List A) → ((more : List A) → Marked (steps cs step r n more) (step_marks cs step mark n)) → (v : Step A B) → Marked (go_on (steps cs step r n) found v) (by_step (step_marks cs step mark n) v)
go-marked cs step r mark n found h (More a) i x j e = h (found ++ a ∷ []) i x j e
go-marked cs step r mark n found h (Last q) i x j e = omega (arith, ap length (same_took e).1)

steps-marked : {A B : Type 0} (cs : List Class) (step : Parser (Step A B)) (r : B) (mark : List Token → List Mark) (n : ℕ) (found : List A) → Marked step mark → Marked (steps cs step r n found) (step_marks cs step mark n)
unfolding steps
steps-marked cs step r mark zero found h i x j e = omega (arith, ap length (same_took e).1)
steps-marked cs step r mark (suc n) found h i x j e =
    elim (truth (has cs (class_of i))) [
      | inl t ↦
          let b = bind_ok (step i) (go_on (steps cs step r n) found) (rw t at e) in
          rw t (omega (arith, h i b.0 b.1 b.2, and-count (mark i) (step i) (by_step (step_marks cs step mark n)) b.0 b.1 b.2, go-marked cs step r mark n found (λ more. steps-marked cs step r mark n more h) b.0 b.1 x j b.3))
      | inr t ↦ rw t (omega (arith, ap length (same_took (rw t at e)).1))
    ]

level-marked : {X : Type 0} (e : Option Inside) (cs : List Class) (p : Parser X) (m : List Token → List Mark) → Marked p m → Marked (level_within e cs p) m
level-marked None cs p m h i x j is = never is
level-marked (Some e) cs p m h i x j is = h i x j is

-- what follows in a shape
shape-count : {C X : Type 0} (c : C) (p : Parser (C → X)) (m : List Token → List Mark) → Marked p m → Marked (λ i. and_then (p i) (λ f k. Ok (f c, k))) m
shape-count c p m h i x j e =
    let b = bind_ok (p i) (λ f k. Ok (f c, k)) e in
    omega (arith, h i b.0 b.1 b.2, ap length (same_took b.3).1)

shapes-marked : {C D X : Type 0} (b : Bool) (c : Option C) (d : Option D) (p : Parser (C → X)) (q : Parser (D → X)) (m n : List Token → List Mark) (i : List Token) (x : X) (j : List Token) → Marked p m → Marked q n
    → cond b (by_shape c p (by_shape d q refused) i) (by_shape d q refused i) ≡ took x j → length (shape_marks b c d (m i) (n i)) + length j ≡ length i
shapes-marked true (Some c) d p q m n i x j h k e = shape-count c p m h i x j e
shapes-marked true None (Some d) p q m n i x j h k e = shape-count d q n k i x j e
shapes-marked true None None p q m n i x j h k e = never e
shapes-marked false c (Some d) p q m n i x j h k e = shape-count d q n k i x j e
shapes-marked false c None p q m n i x j h k e = never e

pub counts : (e : Option Inside) (inner : Family) → ((n : Nonterminal) → Shrinks (read_inside e n)) → ((r : Bool) (n : Nonterminal) → Marked (read_inside e n) (inner r n)) → (y : Style) {X : Type 0} (s : Syntax X) → fits y s ≡ true → Marked (read e s) (marks e inner y s)
counts e inner sh h plain s f i x j is = unmarked-count (read e s i) i x j is (read-shrinks e sh s i x j is)
counts e inner sh h (within r) (inside n) f i x j is = h r n i x j is
counts e inner sh h (part y z) (apply s t) f i x j is =
    let parts = and-parts (fits y s) (fits z t) f in
    let b = bind_ok (read e s i) _ is in
    let c = bind_ok (read e t b.1) _ b.3 in
    omega (
      arith,
      and-count (marks e inner y s i) (read e s i) (λ g k. marks e inner z t k) b.0 b.1 b.2,
      counts e inner sh h y s parts.0 i b.0 b.1 b.2,
      counts e inner sh h z t parts.1 b.1 c.0 c.1 c.2,
      ap length (same_took c.3).1,
    )
counts e inner sh h (choice y z) (either cs s t) f i x j is =
    let parts = and-parts (fits y s) (fits z t) f in
    if-marked cs (read e s) (read e t) (marks e inner y s) (marks e inner z t) (counts e inner sh h y s parts.0) (counts e inner sh h z t parts.1) i x j is
counts e inner sh h (choice y z) (switch cs s t) f i x j is =
    let parts = and-parts (fits y s) (fits z t) f in
    if-marked cs (read e s) (read e t) (marks e inner y s) (marks e inner z t) (counts e inner sh h y s parts.0) (counts e inner sh h z t parts.1) i x j is
counts e inner sh h (rows y z) (row s cs t r) f i x j is =
    let parts = and-parts (fits y s) (fits z t) f in
    let b = bind_ok (read e s i) _ is in
    omega (
      arith,
      and-count (marks e inner y s i) (read e s i) (λ found k. step_marks cs (read e t) (marks e inner z t) (length k) k) b.0 b.1 b.2,
      counts e inner sh h y s parts.0 i b.0 b.1 b.2,
      steps-marked cs (read e t) r (marks e inner z t) (length b.1) b.0 (counts e inner sh h z t parts.1) b.1 x j b.3,
    )
counts e inner sh h (level y) (deeper cs s) f i x j is = level-marked e cs (read e s) (marks e inner y s) (counts e inner sh h y s f) i x j is
counts e inner sh h (shapes y z w) (shaped s p cs t g u o) f i x j is =
    let parts = and-parts (fits y s && fits z t) (fits w u) f in
    let front = and-parts (fits y s) (fits z t) parts.0 in
    let b = bind_ok (read e s i) _ is in
    omega (
      arith,
      and-count (marks e inner y s i) (read e s i) (λ v k. shape_marks (has cs (class_of k)) (p v) (g v) (marks e inner z t k) (marks e inner w u k)) b.0 b.1 b.2,
      counts e inner sh h y s front.0 i b.0 b.1 b.2,
      shapes-marked (has cs (class_of b.1)) (p b.0) (g b.0) (read e t) (read e u) (marks e inner z t) (marks e inner w u) b.1 x j (counts e inner sh h z t front.1) (counts e inner sh h w u parts.1) b.3,
    )
counts e inner sh h (starts y) s f i x j is = omega (arith, length-first (marks e inner y s i), counts e inner sh h y s f i x j is)
counts e inner sh h (indents y) s f i x j is = omega (arith, length-map deeper_mark (marks e inner y s i), counts e inner sh h y s f i x j is)
counts e inner sh h (given cs y z) s f i x j is =
    let parts = and-parts (fits y s) (fits z s) f in
    given-marked cs (read e s) (marks e inner y s) (marks e inner z s) (counts e inner sh h y s parts.0) (counts e inner sh h z s parts.1) i x j is
counts e inner sh h y s f i x j is = absurd (no-fit f)
