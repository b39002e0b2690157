-- What is read is derived.
use Rattle.std.proofs.Common.{◌≡◌, ℕ, zero, suc, Bool, true, false, List, [], ◌∷◌, ◌++◌, length, Option, Some, None, refl, sym, ap, ◌∙◌, subst, append_assoc}
use Rattle.std.proofs.lemmas.List.{append-nil}
use Rattle.std.specs.Prelude.{if◌then◌else◌, ◌⊎◌}
use Rattle.std.proofs.Common.{inl, inr}
use Rattle.ep_token.specs.declared.token.Token.{Token}
use Rattle.ep_grammar.specs.Classes.{Class, Sort, carried, has, class_of, after_first, meaning}
use Rattle.ep_grammar.specs.Descriptions.{Nonterminal, Node, Step, More, Last, AlwaysOne, Syntax, give, token, line, inside, apply, either, switch, row, deeper, shaped}
use Rattle.ep_grammar.specs.Derived.{Family, Steps, no_step, last_step, one_step, derives}
use Rattle.ep_grammar.specs.Reading.{ReadOutcome, Parser, and_then, taken, read_token, go_on, steps, Inside, read_inside, within, by_shape, refused, read}
use Rattle.ep_grammar.proofs.public.Outcomes.{took, never, bind_ok, same_took}

taken_ok : {A : Type 0} (o : Option A) (i : List Token) (x : A) (b : List Token) → taken o i ≡ took x b → (o ≡ Some x) × (after_first i ≡ b)
taken_ok None i x b h = never h
taken_ok (Some y) i x b h = let q = same_took h in (ap Some q.0, q.1)

pub token_ok : (s : Sort) (a : List Token) (x : carried s) (b : List Token) → read_token s a ≡ took x b → (t : Token) × (a ≡ t ∷ b) × (meaning s t.kind ≡ Some x)
token_ok s [] x b h = never h
token_ok s (t ∷ ts) x b h = let q = taken_ok (meaning s t.kind) (t ∷ ts) x b h in (t, ap (λ w. t ∷ w) q.1, q.0)

-- the one of two that was read
pub chosen : {A : Type 0} (v : Bool) (p q : ReadOutcome A) {x : A} {b : List Token} → (if v then p else q) ≡ took x b → ((v ≡ true) × (p ≡ took x b)) ⊎ ((v ≡ false) × (q ≡ took x b))
chosen true p q h = inl (refl, h)
chosen false p q h = inr (refl, h)

pub within_ok : {X : Type 0} (p : Option Inside) (cs : List Class) (q : Parser X) (a : List Token) (x : X) (b : List Token) → within p cs q a ≡ took x b → q a ≡ took x b
within_ok None cs q a x b h = never h
within_ok (Some e) cs q a x b h = h

pub by_shape_ok : {C X : Type 0} (o : Option C) (p : Parser (C → X)) (q : Parser X) (j : List Token) (x : X) (b : List Token) → by_shape o p q j ≡ took x b → ((c : C) × (h : C → X) × (o ≡ Some c) × (p j ≡ took h b) × (x ≡ h c)) ⊎ (q j ≡ took x b)
by_shape_ok None p q j x b h = inr h
by_shape_ok (Some c) p q j x b h =
    let v = bind_ok (p j) (λ g k. took (g c) k) h in
    let w = same_took v.3 in
    inl (c, v.0, refl, subst (λ l. p j ≡ took v.0 l) w.1 v.2, sym w.0)

abbrev pub Sounds : {A : Type 0} → Parser A → Family A → Type 0
Sounds p D = (a : List Token) (x : _) (b : List Token) → p a ≡ took x b → D a b x

-- the items that follow those found
abbrev Row : {A B : Type 0} → Family (Step A B) → B → List Token → List Token → List A → List A × B → Type 0
Row D r a b found out = (ys : List _) × (q : _) × Steps D r a b ys q × (out ≡ (found ++ ys, q))

row_end : {A B : Type 0} (D : Family (Step A B)) (r : B) (a b : List Token) (found : List A) (out : List A × B) → took (found, r) a ≡ took out b → Row D r a b found out
row_end D r a b found out h = let q = same_took h in ([], r, subst (λ w. Steps D r a w [] r) q.1 no_step, sym q.0 ∙ ap (λ w. (w, r)) (sym (append-nil found)))

module _ {A B : Type 0} (cs : List Class) (p : Parser (Step A B)) (D : Family (Step A B)) (so : Sounds p D) (r : B) where
  step_ok : (more : List A → Parser (List A × B)) → ((found : List A) (a : List Token) (out : List A × B) (b : List Token) → more found a ≡ took out b → Row D r a b found out) → (found : List A) (s : Step A B) (a m : List Token) → D a m s → (out : List A × B) (b : List Token) → go_on more found s m ≡ took out b → Row D r a b found out
  step_ok more rec found (More x) a m d out b h =
      let w = rec (found ++ x ∷ []) m out b h in
      (x ∷ w.0, w.1, one_step d w.2, w.3 ∙ ap (λ z. (z, w.1)) (append_assoc found (x ∷ []) w.0))
  step_ok more rec found (Last q) a m d out b h =
      let w = same_took h in
      ([], q, last_step (subst (λ z. D a z (Last q)) w.1 d), sym w.0 ∙ ap (λ z. (z, q)) (sym (append-nil found)))

  turn_ok : (more : List A → Parser (List A × B)) → ((found : List A) (a : List Token) (out : List A × B) (b : List Token) → more found a ≡ took out b → Row D r a b found out) → (found : List A) (a : List Token) (out : List A × B) (b : List Token) → ((has cs (class_of a) ≡ true) × (and_then (p a) (go_on more found) ≡ took out b)) ⊎ ((has cs (class_of a) ≡ false) × (took (found, r) a ≡ took out b)) → Row D r a b found out
  turn_ok more rec found a out b (inl w) = let u = bind_ok (p a) (go_on more found) w.1 in step_ok more rec found u.0 a u.1 (so a u.0 u.1 u.2) out b u.3
  turn_ok more rec found a out b (inr w) = row_end D r a b found out w.1

  pub steps_ok : (n : ℕ) (found : List A) (a : List Token) (out : List A × B) (b : List Token) → steps cs p r n found a ≡ took out b → Row D r a b found out
  unfolding steps
  steps_ok zero found a out b h = row_end D r a b found out h
  steps_ok (suc n) found a out b h = turn_ok (steps cs p r n) (λ found a out b h. steps_ok n found a out b h) found a out b (chosen (has cs (class_of a)) (and_then (p a) (go_on (steps cs p r n) found)) (took (found, r) a) h)

module _ (e : (n : Nonterminal) → Family (Node n)) (p : Option Inside) (so : (n : Nonterminal) → Sounds (read_inside p n) (e n)) where
  second_sound : {A D X : Type 0} (y : A) (g : A → Option D) (u : Syntax (D → X)) → Sounds (read p u) (derives e u) → (m : List Token) (x : X) (b : List Token) → by_shape (g y) (read p u) refused m ≡ took x b → (c : D) × (h : D → X) × (g y ≡ Some c) × derives e u m b h × (x ≡ h c)
  second_sound y g u so-u m x b h = elim (by_shape_ok (g y) (read p u) refused m x b h) [ inl w ↦ (w.0, w.1, w.2, so-u m w.1 b w.3, w.4) | inr w ↦ never w ]

  shaped_sound : {A C D X : Type 0} (s : Syntax A) (f : A → Option C) (cs : List Class) (t : Syntax (C → X)) (g : A → Option D) (u : Syntax (D → X)) (o : AlwaysOne f g) → Sounds (read p s) (derives e s) → Sounds (read p t) (derives e t) → Sounds (read p u) (derives e u) → (a : List Token) (x : X) (b : List Token) → read p (shaped s f cs t g u o) a ≡ took x b → derives e (shaped s f cs t g u o) a b x
  shaped_sound s f cs t g u o so-s so-t so-u a x b h =
      let v = bind_ok (read p s a) (λ y j. if has cs (class_of j) then by_shape (f y) (read p t) (by_shape (g y) (read p u) refused) j else by_shape (g y) (read p u) refused j) h in
      let d = so-s a v.0 v.1 v.2 in
      elim (chosen (has cs (class_of v.1)) (by_shape (f v.0) (read p t) (by_shape (g v.0) (read p u) refused) v.1) (by_shape (g v.0) (read p u) refused v.1) v.3) [
        | inl w ↦ elim (by_shape_ok (f v.0) (read p t) (by_shape (g v.0) (read p u) refused) v.1 x b w.1) [
          | inl z ↦ (v.1, v.0, d, inl (z.0, z.1, z.2, so-t v.1 z.1 b z.3, z.4))
          | inr z ↦ (v.1, v.0, d, inr (second_sound v.0 g u so-u v.1 x b z))
        ]
        | inr w ↦ (v.1, v.0, d, inr (second_sound v.0 g u so-u v.1 x b w.1))
      ]

  pub sound : {X : Type 0} (s : Syntax X) (a : List Token) (x : X) (b : List Token) → read p s a ≡ took x b → derives e s a b x
  sound (give y) a x b h = let q = same_took h in (q.1, sym q.0)
  sound (token s) a x b h = token_ok s a x b h
  sound line a x b h = let q = same_took h in (q.1, sym q.0)
  sound (inside n) a x b h = so n a x b h
  sound (apply s t) a x b h =
      let u = bind_ok (read p s a) (λ f j. and_then (read p t j) (λ y k. took (f y) k)) h in
      let v = bind_ok (read p t u.1) (λ y k. took (u.0 y) k) u.3 in
      let q = same_took v.3 in
      (u.1, u.0, v.0, sound s a u.0 u.1 u.2, subst (λ w. derives e t u.1 w v.0) q.1 (sound t u.1 v.0 v.1 v.2), sym q.0)
  sound (either cs s t) a x b h = elim (chosen (has cs (class_of a)) (read p s a) (read p t a) h) [ inl w ↦ inl (sound s a x b w.1) | inr w ↦ inr (sound t a x b w.1) ]
  sound (switch cs s t) a x b h = elim (chosen (has cs (class_of a)) (read p s a) (read p t a) h) [ inl w ↦ inl (w.0, sound s a x b w.1) | inr w ↦ inr (w.0, sound t a x b w.1) ]
  sound (row s cs t r) a x b h =
      let u = bind_ok (read p s a) (λ found j. steps cs (read p t) r (length j) found j) h in
      let w = steps_ok cs (read p t) (derives e t) (λ a x b k. sound t a x b k) r (length u.1) u.0 u.1 x b u.3 in
      (u.1, u.0, w.0, w.1, sound s a u.0 u.1 u.2, w.2, w.3)
  sound (deeper cs s) a x b h = sound s a x b (within_ok p cs (read p s) a x b h)
  sound (shaped s f cs t g u o) a x b h = shaped_sound s f cs t g u o (λ a x b k. sound s a x b k) (λ a x b k. sound t a x b k) (λ a x b k. sound u a x b k) a x b h
