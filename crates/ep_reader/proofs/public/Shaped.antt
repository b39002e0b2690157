-- Nodes with a line, made of what was read by its shape.
use Rattle.std.proofs.Common.{◌≡◌, ℕ, Bool, true, false, if◌then◌else◌, List, Option, Some, Ok, Err, refl, sym, ap, ◌∙◌}
use Rattle.ep_token.specs.declared.token.Token.{Token}
use Rattle.ep_grammar.specs.Classes.{Class, has, class_of, line_of}
use Rattle.ep_grammar.specs.Descriptions.{Syntax}
use Rattle.ep_grammar.specs.Reading.{ReadOutcome, Parser, Inside, and_then, applied, by_shape, refused, read}
use Rattle.ep_reader.proofs.public.Outcomes.{chosen, one_class, passed}

-- two applications in turn
twice : {C Z : Type 0} (o : ReadOutcome (C → ℕ → Z)) (c : C) (at : ℕ) → applied (λ (h : ℕ → Z). h at) (and_then o (λ h k. Ok (h c, k))) ≡ applied (λ r. r c at) o
twice (Ok p) c at = refl
twice (Err p) c at = refl

-- a class among these, which are one
pub one_of : (b v : Bool) → v ≡ b → v ≡ (if b then true else false)
one_of b v h = sym (one_class b v h)

-- a node with a line, of what was read by its shape
abbrev pub by_shapes : {A C D Z : Type 0} → Option Inside → Syntax A → (A → Option C) → List Class → Syntax (C → ℕ → Z) → (A → Option D) → Syntax (D → ℕ → Z) → Parser Z
by_shapes {A} {C} {D} {Z} e s f cs t g u = λ i. applied (λ (r : ℕ → Z). r (line_of i)) (and_then (read e s i) (λ y j. if has cs (class_of j) then by_shape (f y) (read e t) (by_shape (g y) (read e u) refused) j else by_shape (g y) (read e u) refused j))

module _ {A C D Z : Type 0} (e : Option Inside) (s : Syntax A) (f : A → Option C) (cs : List Class) (t : Syntax (C → ℕ → Z)) (g : A → Option D) (u : Syntax (D → ℕ → Z)) (i : List Token) {j : List Token} {y : A} {at : ℕ} (l : at ≡ line_of i) (h : read e s i ≡ Ok (y, j)) where
  second_at : ReadOutcome (ℕ → Z)
  second_at = by_shape (g y) (read e u) refused j

  first_at : Option C → ReadOutcome (ℕ → Z)
  first_at w = by_shape w (read e t) (by_shape (g y) (read e u) refused) j

  went : by_shapes e s f cs t g u i ≡ applied (λ (r : ℕ → Z). r at) (if has cs (class_of j) then first_at (f y) else second_at)
  unfolding second_at first_at
  went =
      ap (λ (w : ReadOutcome A). applied (λ (r : ℕ → Z). r (line_of i)) (and_then w (λ y j. if has cs (class_of j) then by_shape (f y) (read e t) (by_shape (g y) (read e u) refused) j else by_shape (g y) (read e u) refused j))) h
      ∙ ap (λ n. applied (λ (r : ℕ → Z). r n) (if has cs (class_of j) then first_at (f y) else second_at)) (sym l)

  -- by the first shape
  pub shaped_first : {c : C} → true ≡ has cs (class_of j) → f y ≡ Some c → by_shapes e s f cs t g u i ≡ applied (λ r. r c at) (read e t j)
  unfolding first_at
  shaped_first {c} b q =
      went ∙ ap (applied (λ (r : ℕ → Z). r at)) (chosen (first_at (f y)) second_at (sym b) ∙ ap first_at q) ∙ twice (read e t j) c at

  -- by the second, where the first cannot begin
  pub shaped_second : {d : D} → false ≡ has cs (class_of j) → g y ≡ Some d → by_shapes e s f cs t g u i ≡ applied (λ r. r d at) (read e u j)
  unfolding second_at
  shaped_second {d} b q =
      went ∙ ap (applied (λ (r : ℕ → Z). r at)) (passed (first_at (f y)) second_at (sym b) ∙ ap (λ w. by_shape w (read e u) refused j) q) ∙ twice (read e u j) d at
