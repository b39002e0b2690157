-- A part of a text that can be completed so that a parser takes it all, and how a parser stops.
use Rattle.std.proofs.Common.{◌≡◌, ℕ, zero, suc, ◌≤◌, ◌<◌, Bool, true, false, List, [], ◌∷◌, ◌++◌, length, Ok, Err, refl, sym, ap, ◌∙◌, subst, append_assoc, arith, inl, inr, length-append}
use Rattle.std.specs.Prelude.{if◌then◌else◌, ◌⊎◌}
use Rattle.ep_token.specs.declared.token.Token.{Token}
use Rattle.ep_grammar.specs.declared.stop.Stop.{Stop}
use Rattle.ep_grammar.specs.Classes.{Class, has, class_of, End}
use Rattle.ep_grammar.specs.Descriptions.{Step, More}
use Rattle.ep_grammar.specs.Reading.{ReadOutcome, Parser, and_then, go_on, steps}
use Rattle.ep_grammar.proofs.public.Outcomes.{took, stopped, never_stops}
use Rattle.ep_grammar.proofs.Classed.{out_front, out_end}
use Rattle.ep_grammar.proofs.Complete.{if_true, if_false}
use Rattle.ep_grammar.proofs.public.Like.{Calm, calm_ok, rest_of, with_rest, Like, Takes, enough}
use Rattle.ep_grammar.proofs.Reach.{Reach, one_step_more, one_step_ends, reach_wider, reach_as, reach_map}

-- The text begins with these tokens, of which there is one at least, and tokens can be added to them. The rest of the text is as the last argument says.
pub record Ahead {X : Type 0} (q : Parser X) (cs : List Class) (a : List Token) (P : List Token → Type 0) : Type 0 where
  pub up : List Token
  pub later : List Token
  pub is : a ≡ up ++ later
  pub left : P later
  pub some : 0 < length up
  pub reach : Reach q cs up

-- ---- how a parser stops

pub stopped_same : {A : Type 0} {e f : Stop} {b c : List Token} → stopped {A = A} e b ≡ stopped f c → (e ≡ f) × (b ≡ c)
stopped_same {A} {e} {f} {b} {c} h =
    let q : (e, b) ≡ (f, c) = cc in
    (ap (λ (w : Stop × List Token). w.0) q, ap (λ (w : Stop × List Token). w.1) q)

pub bind_stop : {A B : Type 0} {e : Stop} {b : List Token} (o : ReadOutcome A) (f : A → Parser B) → and_then o f ≡ stopped e b → (o ≡ stopped e b) ⊎ ((x : A) × (m : List Token) × (o ≡ took x m) × (f x m ≡ stopped e b))
bind_stop (Ok p) f h = inr (p.0, p.1, refl, h)
bind_stop (Err p) f h = let q = stopped_same h in inl (ap (λ e. stopped e p.1) q.0 ∙ ap (stopped _) q.1)

pub map_stop : {A B : Type 0} (o : ReadOutcome A) (f : A → B) {e : Stop} {b : List Token} → and_then o (λ x k. took (f x) k) ≡ stopped e b → o ≡ stopped e b
map_stop o f h = elim (bind_stop o (λ x k. took (f x) k) h) [ inl w ↦ w | inr w ↦ never_stops w.3 ]

-- the one of two that stopped
pub which : {A : Type 0} (v : Bool) (p q : ReadOutcome A) {e : Stop} {b : List Token} → (if v then p else q) ≡ stopped e b → ((v ≡ true) × (p ≡ stopped e b)) ⊎ ((v ≡ false) × (q ≡ stopped e b))
which true p q h = inl (refl, h)
which false p q h = inr (refl, h)

-- ---- the parts

-- the first token is among those that were taken
pub class_up : (up u v : List Token) → 0 < length up → class_of (up ++ u) ≡ class_of (up ++ v)
class_up [] u v h = absurd (omega arith)
class_up (t ∷ up) u v h = refl

-- with more classes that must not follow
pub ahead_wider : {X : Type 0} (q : Parser X) (cs ds : List Class) (a : List Token) (P : List Token → Type 0) → ((c : Class) → has ds c ≡ false → has cs c ≡ false) → Ahead q cs a P → Ahead q ds a P
ahead_wider q cs ds a P f c = record { up = c.up; later = c.later; is = c.is; left = c.left; some = c.some; reach = reach_wider q cs ds c.up f c.reach }

-- another parser that answers the same to texts that begin so
pub ahead_as : {X : Type 0} (q p : Parser X) (cs : List Class) (a : List Token) (P : List Token → Type 0) → ((i : List Token) → class_of i ≡ class_of a → p i ≡ q i) → Ahead q cs a P → Ahead p cs a P
ahead_as q p cs a P f c = record { up = c.up; later = c.later; is = c.is; left = c.left; some = c.some; reach = reach_as q p cs c.up (λ z. f (c.up ++ z) (class_up c.up z c.later c.some ∙ ap class_of (sym c.is))) c.reach }

-- with another meaning
pub ahead_map : {A B : Type 0} (q : Parser A) (h : A → B) (cs : List Class) (a : List Token) (P : List Token → Type 0) → Ahead q cs a P → Ahead (λ i. and_then (q i) (λ x k. took (h x) k)) cs a P
ahead_map q h cs a P c = record { up = c.up; later = c.later; is = c.is; left = c.left; some = c.some; reach = reach_map q h cs c.up c.reach }

-- the one of two that a class decides
pub ahead_if : {X : Type 0} (cs ds : List Class) (p q : Parser X) (a : List Token) (P : List Token → Type 0) → ((has cs (class_of a) ≡ true) × Ahead p ds a P) ⊎ ((has cs (class_of a) ≡ false) × Ahead q ds a P) → Ahead (λ i. if has cs (class_of i) then p i else q i) ds a P
ahead_if cs ds p q a P (inl w) = ahead_as p (λ i. if has cs (class_of i) then p i else q i) ds a P (λ i e. if_true (has cs (class_of i)) (p i) (q i) (p i) (ap (has cs) e ∙ w.0) refl) w.1
ahead_if cs ds p q a P (inr w) = ahead_as q (λ i. if has cs (class_of i) then p i else q i) ds a P (λ i e. if_false (has cs (class_of i)) (p i) (q i) (q i) (ap (has cs) e ∙ w.0) refl) w.1

-- what a parser took, one with more levels takes whatever follows the token at which it stopped
pub moved : {A : Type 0} (v : Bool) (p q : Parser A) → Like v p q → (a m : List Token) (x : A) → p a ≡ took x m → (up later : List Token) → m ≡ up ++ later → 0 < length up → (pre : List Token) × (a ≡ pre ++ m) × ((y : List Token) → q (pre ++ (up ++ y)) ≡ took x (up ++ y))
moved v p q l a m x e [] later f some = absurd (omega arith)
moved v p q l a m x e (t ∷ up) later f some =
    let r = l.front a in
    let cut : a ≡ r.0 ++ m = r.1 ∙ ap (λ o. r.0 ++ rest_of o) e in
    let here : p (r.0 ++ t ∷ (up ++ later)) ≡ took x (t ∷ (up ++ later)) = ap p (ap (λ w. r.0 ++ w) (sym f) ∙ sym cut) ∙ e ∙ ap (took x) f in
    (r.0, cut, λ y. l.same r.0 t (up ++ later) (up ++ y) (ap rest_of here) (subst (Calm v) (sym here) (calm_ok v x (t ∷ (up ++ later)))) ∙ ap (λ o. with_rest o (t ∷ (up ++ y))) here)

pub longer : (pre up : List Token) → 0 < length up → 0 < length (pre ++ up)
longer pre up h = omega (arith, length-append pre up)

-- the first of two took what came before
pub ahead_second : {A B : Type 0} (v : Bool) (p q : Parser A) (h : A → Parser B) (ds : List Class) → Like v p q → (a m : List Token) (P : List Token → Type 0) (x : A) → p a ≡ took x m → Ahead (h x) ds m P → Ahead (λ i. and_then (q i) h) ds a P
ahead_second v p q h ds l a m P x e c =
    let f = moved v p q l a m x e c.up c.later c.is c.some in
    record {
      up = f.0 ++ c.up;
      later = c.later;
      is = f.1 ∙ ap (λ w. f.0 ++ w) c.is ∙ sym (append_assoc f.0 c.up c.later);
      left = c.left;
      some = longer f.0 c.up c.some;
      reach = record {
        rest = c.reach.rest;
        reads = λ z o.
            let w = c.reach.reads z o in
            (w.0, ap (λ i. and_then (q i) h) (append_assoc f.0 c.up (c.reach.rest ++ z)) ∙ ap (λ o. and_then o h) (f.2 (c.reach.rest ++ z)) ∙ w.1);
      };
    }

-- ---- rows

module _ {A B : Type 0} (cs ds : List Class) (v : Bool) (p q : Parser (Step A B)) (r : B) (l : Like v p q) (tq : Takes q) (e : has cs End ≡ false) where
  -- the text is that of a row after these items
  abbrev pub Row : List A → List Token → (List Token → Type 0) → Type 0
  Row found a P = Ahead (λ j. steps cs q r (length j) found j) (ds ++ cs) a P

  -- in a step
  pub row_first : (found : List A) (a : List Token) (P : List Token → Type 0) → has cs (class_of a) ≡ true → Ahead q ds a P → Row found a P
  row_first found a P h c = record {
    up = c.up;
    later = c.later;
    is = c.is;
    left = c.left;
    some = c.some;
    reach = record {
      rest = c.reach.rest;
      reads = λ z o.
          let i = c.up ++ (c.reach.rest ++ z) in
          let w = c.reach.reads z (out_front ds cs (class_of z) o) in
          (one_step_more found r w.0, one_step_ends cs q r (length i) found i z w.0 (omega (arith, length-append c.up (c.reach.rest ++ z), c.some)) (ap (has cs) (class_up c.up (c.reach.rest ++ z) c.later c.some ∙ ap class_of (sym c.is)) ∙ h) w.1 (out_end ds cs (class_of z) o));
    };
  }

  -- a step took an item, and the next ones go on
  pub next_steps : (n : ℕ) (found : List A) (i k : List Token) (x : A) → length i ≤ n → has cs (class_of i) ≡ true → q i ≡ took (More x) k → steps cs q r n found i ≡ steps cs q r (length k) (found ++ x ∷ []) k
  unfolding steps
  next_steps zero found i k x le h f = absurd (let less = tq i (More x) k f in omega arith)
  next_steps (suc n) found i k x le h f =
      if_true (has cs (class_of i)) (and_then (q i) (go_on (steps cs q r n) found)) (took (found, r) i) (steps cs q r (length k) (found ++ x ∷ []) k) h
      (ap (λ o. and_then o (go_on (steps cs q r n) found)) f ∙ enough cs q r tq e n (length k) (found ++ x ∷ []) k (let less = tq i (More x) k f in omega arith) (omega arith))

  -- in the steps after one that took an item
  pub row_second : (found : List A) (a m : List Token) (P : List Token → Type 0) (x : A) → has cs (class_of a) ≡ true → p a ≡ took (More x) m → Row (found ++ x ∷ []) m P → Row found a P
  row_second found a m P x h k c = let f = moved v p q l a m (More x) k c.up c.later c.is c.some in record {
    up = f.0 ++ c.up;
    later = c.later;
    is = f.1 ∙ ap (λ w. f.0 ++ w) c.is ∙ sym (append_assoc f.0 c.up c.later);
    left = c.left;
    some = longer f.0 c.up c.some;
    reach = record {
      rest = c.reach.rest;
      reads = λ z o.
          let u = c.reach.rest ++ z in
          let w = c.reach.reads z o in
          let begun : class_of (f.0 ++ (c.up ++ u)) ≡ class_of a = ap class_of (sym (append_assoc f.0 c.up u)) ∙ class_up (f.0 ++ c.up) u c.later (longer f.0 c.up c.some) ∙ ap class_of (append_assoc f.0 c.up c.later ∙ ap (λ w. f.0 ++ w) (sym c.is) ∙ sym f.1) in
          (w.0, ap (λ i. steps cs q r (length i) found i) (append_assoc f.0 c.up u) ∙ next_steps (length (f.0 ++ (c.up ++ u))) found (f.0 ++ (c.up ++ u)) (c.up ++ u) x (omega arith) (ap (has cs) begun ∙ h) (f.2 u) ∙ w.1);
    };
  }
