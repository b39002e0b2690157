-- A parser looks no further than the token at which it stops, and more room changes nothing but `Nested`.
use Rattle.std.proofs.Common.{◌≡◌, ℕ, zero, suc, ◌≤◌, ◌<◌, ◌+◌, Bool, true, false, List, [], ◌∷◌, ◌++◌, length, Ok, Err, Option, Some, None, refl, sym, ap, ◌∙◌, subst, append_assoc, arith, length-append}
use Rattle.std.specs.Prelude.{if◌then◌else◌}
use Rattle.ep_token.specs.declared.token.Token.{Token}
use Rattle.ep_grammar.specs.declared.stop.Stop.{Stop}
use Rattle.ep_grammar.specs.declared.stop.Stop.TheVariants.{Syntax, Nested}
use Rattle.ep_grammar.specs.Classes.{Class, Sort, has, class_of, after_first, End}
use Rattle.ep_grammar.specs.Descriptions.{Step, More, Last}
use Rattle.ep_grammar.specs.Reading.{ReadOutcome, Parser, and_then, taken, peek, read_token, go_on, steps, by_shape}
use Rattle.ep_grammar.proofs.public.Outcomes.{took, stopped}

abbrev pub rest_of : {A : Type 0} → ReadOutcome A → List Token
rest_of (Ok p) = p.1
rest_of (Err e) = e.1

abbrev pub with_rest : {A : Type 0} → ReadOutcome A → List Token → ReadOutcome A
with_rest (Ok p) c = took p.0 c
with_rest (Err e) c = stopped e.0 c

abbrev pub NotNested : Stop → Type 0
NotNested Nested = ⊥
NotNested _ = Unit {0}

-- under `true` any outcome, and under `false` one that is not for want of room
abbrev pub Calm : {A : Type 0} → Bool → ReadOutcome A → Type 0
Calm true o = Unit {0}
Calm false (Ok p) = Unit {0}
Calm false (Err e) = NotNested e.0

pub record Like {A : Type 0} (v : Bool) (p q : Parser A) : Type 0 where
  -- what is left is an end of what was given
  pub front : (a : List Token) → (pre : List Token) × (a ≡ pre ++ rest_of (p a))
  -- what comes after the token at which it stops does not matter
  pub same : (pre : List Token) (t : Token) (y z : List Token) → rest_of (p (pre ++ t ∷ y)) ≡ t ∷ y → Calm v (p (pre ++ t ∷ y)) → q (pre ++ t ∷ z) ≡ with_rest (p (pre ++ t ∷ y)) (t ∷ z)
  pub more : (a : List Token) → Calm v (p a) → q a ≡ p a

-- ---- lists

pub shorter : (pre a : List Token) → pre ++ a ≡ a → pre ≡ []
shorter [] a h = refl
shorter (u ∷ pre) a h = absurd (omega (arith, length-append (u ∷ pre) a, ap length h))

pub same_end : (pre pre' a : List Token) → pre ++ a ≡ pre' ++ a → pre ≡ pre'
same_end [] [] a h = refl
same_end [] (u ∷ pre) a h = absurd (omega (arith, length-append (u ∷ pre) a, ap length h))
same_end (u ∷ pre) [] a h = absurd (omega (arith, length-append (u ∷ pre) a, ap length h))
same_end (u ∷ pre) (w ∷ pre') a h = let e : u ≡ w = cc in let r : pre ++ a ≡ pre' ++ a = cc in ap (λ x. x ∷ pre) e ∙ ap (λ x. w ∷ x) (same_end pre pre' a r)

-- ---- the steps

module _ {A : Type 0} (v : Bool) (x : A) where
  pub like_give : Like v (λ i. took x i) (λ i. took x i)
  like_give = record {
    front = λ a. ([], refl);
    same = λ pre t y z h _. ap (λ w. took x (w ++ t ∷ z)) (shorter pre (t ∷ y) h);
    more = λ a _. refl;
  }

module _ {A : Type 0} (v : Bool) (e : Stop) where
  pub like_stop : Like {A = A} v (λ i. stopped e i) (λ i. stopped e i)
  like_stop = record {
    front = λ a. ([], refl);
    same = λ pre t y z h _. ap (λ w. stopped e (w ++ t ∷ z)) (shorter pre (t ∷ y) h);
    more = λ a _. refl;
  }

skip_front : (a : List Token) → (pre : List Token) × (a ≡ pre ++ after_first a)
skip_front [] = ([], refl)
skip_front (t ∷ a) = (t ∷ [], refl)

skip_same : (pre : List Token) (t : Token) (y z : List Token) → after_first (pre ++ t ∷ y) ≡ t ∷ y → after_first (pre ++ t ∷ z) ≡ t ∷ z
skip_same [] t y z h = absurd (omega (arith, ap length h))
skip_same (u ∷ pre) t y z h = ap (λ w. w ++ t ∷ z) (shorter pre (t ∷ y) h)

module _ {A : Type 0} (v : Bool) (x : A) where
  -- takes a token, whatever it is
  pub like_take : Like v (λ i. took x (after_first i)) (λ i. took x (after_first i))
  like_take = record {
    front = skip_front;
    same = λ pre t y z h _. ap (took x) (skip_same pre t y z h);
    more = λ a _. refl;
  }

-- a choice by the first token
pub like_by : {A X : Type 0} (v : Bool) (d : List Token → X) (p q : X → Parser A) → ((t : Token) (y z : List Token) → d (t ∷ y) ≡ d (t ∷ z)) → ((x : X) → Like v (p x) (q x)) → Like v (λ i. p (d i) i) (λ i. q (d i) i)
like_by v d p q first l = record {
  front = λ a. (l (d a)).front a;
  same = λ pre t y z h c. by_same pre t y z h c;
  more = λ a c. (l (d a)).more a c;
}
  where
    at_first : (pre : List Token) (t : Token) (y z : List Token) → d (pre ++ t ∷ z) ≡ d (pre ++ t ∷ y)
    at_first [] t y z = first t z y
    at_first (u ∷ pre) t y z = first u (pre ++ t ∷ z) (pre ++ t ∷ y)

    by_same : (pre : List Token) (t : Token) (y z : List Token) → rest_of (p (d (pre ++ t ∷ y)) (pre ++ t ∷ y)) ≡ t ∷ y → Calm v (p (d (pre ++ t ∷ y)) (pre ++ t ∷ y)) → q (d (pre ++ t ∷ z)) (pre ++ t ∷ z) ≡ with_rest (p (d (pre ++ t ∷ y)) (pre ++ t ∷ y)) (t ∷ z)
    by_same pre t y z h c = ap (λ x. q x (pre ++ t ∷ z)) (at_first pre t y z) ∙ (l (d (pre ++ t ∷ y))).same pre t y z h c

-- ---- one after the other

calm_first : {A B : Type 0} (v : Bool) (o : ReadOutcome A) (g : A → Parser B) → Calm v (and_then o g) → Calm v o
calm_first true o g c = tt
calm_first false (Ok w) g c = tt
calm_first false (Err e) g c = c

then_front : {A B : Type 0} (o : ReadOutcome A) (g : A → Parser B) → ((x : A) (a : List Token) → (pre : List Token) × (a ≡ pre ++ rest_of (g x a))) → (pre : List Token) × (rest_of o ≡ pre ++ rest_of (and_then o g))
then_front (Ok w) g f = f w.0 w.1
then_front (Err e) g f = ([], refl)

then_more : {A B : Type 0} (v : Bool) (o : ReadOutcome A) (g h : A → Parser B) → ((x : A) → Like v (g x) (h x)) → Calm v (and_then o g) → and_then o h ≡ and_then o g
then_more v (Ok w) g h l c = (l w.0).more w.1 c
then_more v (Err e) g h l c = refl

pub calm_ok : {A : Type 0} (v : Bool) (x : A) (b : List Token) → Calm v (took x b)
calm_ok true x b = tt
calm_ok false x b = tt

-- the second stops at t, after `pre` of what the first left
then_at : {A B : Type 0} (v : Bool) (p q : Parser A) (g h : A → Parser B) → Like v p q → ((x : A) → Like v (g x) (h x)) → (pre0 pre : List Token) (t : Token) (y z : List Token) (x : A) → p ((pre0 ++ pre) ++ t ∷ y) ≡ took x (pre ++ t ∷ y) → Calm v (took x (pre ++ t ∷ y)) → rest_of (g x (pre ++ t ∷ y)) ≡ t ∷ y → Calm v (g x (pre ++ t ∷ y)) → and_then (q ((pre0 ++ pre) ++ t ∷ z)) h ≡ with_rest (g x (pre ++ t ∷ y)) (t ∷ z)
then_at v p q g h l m pre0 [] t y z x e c r d =
    let s = l.same (pre0 ++ []) t y z (ap rest_of e) (subst (Calm v) (sym e) c) in
    ap (λ o. and_then o h) (s ∙ ap (λ o. with_rest o (t ∷ z)) e) ∙ (m x).same [] t y z r d
then_at v p q g h l m pre0 (u ∷ pre) t y z x e c r d =
    let here = append_assoc pre0 (u ∷ pre) (t ∷ y) in
    let there = append_assoc pre0 (u ∷ pre) (t ∷ z) in
    let e' = ap p (sym here) ∙ e in
    let s = l.same pre0 u (pre ++ t ∷ y) (pre ++ t ∷ z) (ap rest_of e') (subst (Calm v) (sym e') c) in
    ap (λ o. and_then o h) (ap q there ∙ s ∙ ap (λ o. with_rest o (u ∷ (pre ++ t ∷ z))) e') ∙ (m x).same (u ∷ pre) t y z r d

then_same : {A B : Type 0} (v : Bool) (p q : Parser A) (g h : A → Parser B) → Like v p q → ((x : A) → Like v (g x) (h x)) → (pre : List Token) (t : Token) (y z : List Token) (o : ReadOutcome A) → p (pre ++ t ∷ y) ≡ o → rest_of (and_then o g) ≡ t ∷ y → Calm v (and_then o g) → and_then (q (pre ++ t ∷ z)) h ≡ with_rest (and_then o g) (t ∷ z)
then_same v p q g h l m pre t y z (Err w) e r c =
    ap (λ o. and_then o h) (l.same pre t y z (ap rest_of e ∙ r) (subst (Calm v) (sym e) (calm_first v (Err w) g c)) ∙ ap (λ o. with_rest o (t ∷ z)) e)
then_same v p q g h l m pre t y z (Ok w) e r c =
    let mid = (m w.0).front w.1 in
    let left : w.1 ≡ mid.0 ++ t ∷ y = mid.1 ∙ ap (λ b. mid.0 ++ b) r in
    let f = l.front (pre ++ t ∷ y) in
    let whole : pre ++ t ∷ y ≡ (f.0 ++ mid.0) ++ t ∷ y = f.1 ∙ ap (λ b. f.0 ++ b) (ap rest_of e ∙ left) ∙ sym (append_assoc f.0 mid.0 (t ∷ y)) in
    let cut : pre ≡ f.0 ++ mid.0 = same_end pre (f.0 ++ mid.0) (t ∷ y) whole in
    let e' : p ((f.0 ++ mid.0) ++ t ∷ y) ≡ took w.0 (mid.0 ++ t ∷ y) = ap p (sym whole) ∙ e ∙ ap (took w.0) left in
    ap (λ b. and_then (q (b ++ t ∷ z)) h) cut
    ∙ then_at v p q g h l m f.0 mid.0 t y z w.0 e' (calm_ok v w.0 (mid.0 ++ t ∷ y)) (ap (λ b. rest_of (g w.0 b)) (sym left) ∙ r) (subst (λ b. Calm v (g w.0 b)) left c)
    ∙ ap (λ b. with_rest (g w.0 b) (t ∷ z)) (sym left)

pub like_then : {A B : Type 0} (v : Bool) (p q : Parser A) (g h : A → Parser B) → Like v p q → ((x : A) → Like v (g x) (h x)) → Like v (λ i. and_then (p i) g) (λ i. and_then (q i) h)
like_then v p q g h l m = record {
  front = λ a.
      let f = l.front a in
      let r = then_front (p a) g (λ x b. (m x).front b) in
      (f.0 ++ r.0, f.1 ∙ ap (λ b. f.0 ++ b) r.1 ∙ sym (append_assoc f.0 r.0 _));
  same = λ pre t y z r c. then_same v p q g h l m pre t y z (p (pre ++ t ∷ y)) refl r c;
  more = λ a c. ap (λ o. and_then o h) (l.more a (calm_first v (p a) g c)) ∙ then_more v (p a) g h m c;
}

-- ---- a token, and a choice by a class

pub like_if : {A : Type 0} (v b : Bool) (p p' q q' : Parser A) → Like v p p' → Like v q q' → Like v (λ i. if b then p i else q i) (λ i. if b then p' i else q' i)
like_if v true p p' q q' l m = l
like_if v false p p' q q' l m = m

pub like_class : {A : Type 0} (v : Bool) (cs : List Class) (p p' q q' : Parser A) → Like v p p' → Like v q q' → Like v (λ i. if has cs (class_of i) then p i else q i) (λ i. if has cs (class_of i) then p' i else q' i)
like_class v cs p p' q q' l m = like_by v (λ i. has cs (class_of i)) (λ b i. if b then p i else q i) (λ b i. if b then p' i else q' i) (λ t y z. refl) (λ b. like_if v b p p' q q' l m)

like_taken : {A : Type 0} (v : Bool) (o : Option A) → Like v (taken o) (taken o)
like_taken v None = like_stop v Syntax
like_taken v (Some x) = like_take v x

pub like_token : (v : Bool) (s : Sort) → Like v (read_token s) (read_token s)
like_token v s = like_by v (peek s) taken taken (λ t y z. refl) (λ o. like_taken v o)

pub like_shape : {C X : Type 0} (v : Bool) (o : Option C) (p p' : Parser (C → X)) (q q' : Parser X) → Like v p p' → Like v q q' → Like v (by_shape o p q) (by_shape o p' q')
like_shape v None p p' q q' l m = m
like_shape v (Some c) p p' q q' l m = like_then v p p' (λ h k. took (h c) k) (λ h k. took (h c) k) l (λ h. like_give v (h c))

-- where there is no room, another parser with room may do anything
pub like_nested : {A : Type 0} (q : Parser A) → Like false (λ i. stopped Nested i) q
like_nested q = record {
  front = λ a. ([], refl);
  same = λ pre t y z h c. absurd c;
  more = λ a c. absurd c;
}

-- ---- rows

module _ {A B : Type 0} (v : Bool) (cs : List Class) (p q : Parser (Step A B)) (r : B) (l : Like v p q) where
  like_go : (f g : List A → Parser (List A × B)) → ((found : List A) → Like v (f found) (g found)) → (found : List A) (s : Step A B) → Like v (go_on f found s) (go_on g found s)
  like_go f g m found (More x) = m (found ++ x ∷ [])
  like_go f g m found (Last z) = like_give v (found, z)

  pub like_steps : (n : ℕ) (found : List A) → Like v (steps cs p r n found) (steps cs q r n found)
  unfolding steps
  like_steps zero found = like_give v (found, r)
  like_steps (suc n) found = like_class v cs (λ i. and_then (p i) (go_on (steps cs p r n) found)) (λ i. and_then (q i) (go_on (steps cs q r n) found)) (took (found, r)) (took (found, r))
      (like_then v p q (go_on (steps cs p r n) found) (go_on (steps cs q r n) found) l (like_go (steps cs p r n) (steps cs q r n) (λ found. like_steps n found) found))
      (like_give v (found, r))

abbrev pub Takes : {A B : Type 0} → Parser (Step A B) → Type 0
Takes p = (a : List Token) (s : _) (b : List Token) → p a ≡ took s b → length b < length a

-- turns past the tokens that are left change nothing
module _ {A B : Type 0} (cs : List Class) (p : Parser (Step A B)) (r : B) (t : Takes p) (e : has cs End ≡ false) where
  one_turn : (f g : List A → Parser (List A × B)) (n m : ℕ) → ((found : List A) (a : List Token) → length a ≤ n → length a ≤ m → f found a ≡ g found a) → (found : List A) (a : List Token) → length a ≤ suc n → length a ≤ suc m → (o : ReadOutcome (Step A B)) → p a ≡ o → and_then o (go_on f found) ≡ and_then o (go_on g found)
  one_turn f g n m rec found a le le' (Err w) h = refl
  one_turn f g n m rec found a le le' (Ok w) h = on_step w.0 w.1 (t a w.0 w.1 h)
    where
      on_step : (s : Step A B) (b : List Token) → length b < length a → go_on f found s b ≡ go_on g found s b
      on_step (More x) b less = rec (found ++ x ∷ []) b (omega arith) (omega arith)
      on_step (Last z) b less = refl

  ends_at : (a : List Token) (n : ℕ) (found : List A) → length a ≤ zero → steps cs p r n found a ≡ took (found, r) a
  unfolding steps
  ends_at (u ∷ a) n found le = absurd (omega arith)
  ends_at [] zero found le = refl
  ends_at [] (suc n) found le = ap (λ b. if b then and_then (p []) (go_on (steps cs p r n) found) else took (found, r) []) e

  both_on : (n m : ℕ) → ((found : List A) (a : List Token) → length a ≤ n → length a ≤ m → steps cs p r n found a ≡ steps cs p r m found a) → (found : List A) (a : List Token) → length a ≤ suc n → length a ≤ suc m → steps cs p r (suc n) found a ≡ steps cs p r (suc m) found a
  unfolding steps
  both_on n m rec found a le le' = ap (λ o. if has cs (class_of a) then o else took (found, r) a) (one_turn (steps cs p r n) (steps cs p r m) n m rec found a le le' (p a) refl)

  pub enough : (n m : ℕ) (found : List A) (a : List Token) → length a ≤ n → length a ≤ m → steps cs p r n found a ≡ steps cs p r m found a
  enough zero m found a le le' = ends_at a zero found le ∙ sym (ends_at a m found le)
  enough (suc n) zero found a le le' = ends_at a (suc n) found le' ∙ sym (ends_at a zero found le')
  enough (suc n) (suc m) found a le le' = both_on n m (λ found a le le'. enough n m found a le le') found a le le'

pub like_row : {A B : Type 0} (v : Bool) (cs : List Class) (p q : Parser (Step A B)) (r : B) → Like v p q → Takes p → Takes q → has cs End ≡ false → (found : List A) → Like v (λ a. steps cs p r (length a) found a) (λ a. steps cs q r (length a) found a)
like_row v cs p q r l tp tq e found = record {
  front = λ a. (like_steps v cs p q r l (length a) found).front a;
  same = λ pre t y z s c.
      let n = length (pre ++ t ∷ y) + length (pre ++ t ∷ z) in
      let f = enough cs p r tp e (length (pre ++ t ∷ y)) n found (pre ++ t ∷ y) (omega arith) (omega arith) in
      let g = enough cs q r tq e (length (pre ++ t ∷ z)) n found (pre ++ t ∷ z) (omega arith) (omega arith) in
      g ∙ (like_steps v cs p q r l n found).same pre t y z (ap rest_of (sym f) ∙ s) (subst (Calm v) f c) ∙ ap (λ o. with_rest o (t ∷ z)) (sym f);
  more = λ a c. (like_steps v cs p q r l (length a) found).more a c;
}
