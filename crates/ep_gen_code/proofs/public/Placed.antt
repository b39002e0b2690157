-- The parts of code that stands in an image stand there too, and how instructions that name something stand there.
use Rattle.std.proofs.Common.{◌≡◌, ℕ, pos, ◌+◌, ◌<◌, IsTrue, ltb, cond, List, [], ◌∷◌, ◌++◌, length, Some, slice_get, refl, ap, ◌∙◌, subst, arith}
use Rattle.std.proofs.lemmas.Bool.{lt-ltb}
use Rattle.ep_object.specs.Placing.{Span, moved, Placement, placed, placed_unit, CodeStands}
use Rattle.ep_simulation.specs.Scene.{TextStands, VariableStands}
use Rattle.ep_object.specs.declared.code.Image.{Image}
use Rattle.ep_object.specs.declared.code.Instr.{Instr}
use Rattle.ep_object.specs.declared.code.Reference.{Reference}
use Rattle.ep_gen_code.specs.Instructions.{instr, reference}
use Rattle.ep_object.specs.declared.op.TheConstants as op

moved_own : (span : Span) (k : ℕ) → IsTrue (ltb k span.own) → moved span k ≡ span.before + k
moved_own span k h = rw h refl

-- an instruction of the image, however its place is written
pub instr_at : (G : Image) {i : Instr} {place other : ℕ} → place ≡ other → slice_get G.instructions other ≡ Some i → slice_get G.instructions place ≡ Some i
instr_at G e h = ap (λ k. slice_get G.instructions k) e ∙ h

module _ (G : Image) (ps : List Placement) (p : Placement) (references : List Reference) where
  pub code_front : (at : ℕ) (xs ys : List Instr) → CodeStands G ps p references at (xs ++ ys) → CodeStands G ps p references at xs
  code_front at [] ys h = tt
  code_front at (x ∷ xs) ys h = (h.0, code_front (at + 1) xs ys h.1)

  pub code_back : (at : ℕ) (xs ys : List Instr) → CodeStands G ps p references at (xs ++ ys) → CodeStands G ps p references (at + length xs) ys
  code_back at [] ys h =
      let e : at ≡ at + 0 = omega arith in
      subst (λ k. CodeStands G ps p references k ys) e h
  code_back at (x ∷ xs) ys h =
      let e : at + 1 + length xs ≡ at + length (x ∷ xs) = omega arith in
      subst (λ k. CodeStands G ps p references k ys) e (code_back (at + 1) xs ys h.1)

  -- `Text` names the text of the image
  pub text_at : (line k place : ℕ) (bytes : List ℕ) → TextStands G p k bytes → slice_get G.instructions place ≡ Some (placed ps p references (instr op.TEXT (pos k) 0 line)) → slice_get G.instructions place ≡ Some (instr op.TEXT (pos (p.texts.before + k)) 0 line)
  text_at line k place bytes text has = has ∙ ap (λ m. Some (instr op.TEXT (pos m) 0 line)) (moved_own p.texts k text.own)

  -- `Unit` names the slot of the variable
  pub variable_at : (line k place number : ℕ) (of_unit : List ℕ) → (variable : VariableStands G ps of_unit number) → slice_get references k ≡ Some (reference of_unit number) → slice_get G.instructions place ≡ Some (placed ps p references (instr op.UNIT (pos k) 0 line)) → slice_get G.instructions place ≡ Some (instr op.UNIT (pos variable.number) number line)
  variable_at line k place number of_unit variable there has =
      has ∙ ap Some (ap (λ r. placed_unit ps r (instr op.UNIT (pos k) 0 line)) there ∙ variable.placed (instr op.UNIT (pos k) 0 line))

  -- a jump within the object stands in the image as a jump to where its target stands
  placed_target : (target : ℕ) → target < p.instructions.own → moved p.instructions target ≡ p.instructions.before + target
  placed_target target inside = ap (λ b. cond b (p.instructions.before + target) 4294967295) (lt-ltb target p.instructions.own inside)

  -- `Jump`
  pub jump_has : (line at target : ℕ) (is : List Instr) → target < p.instructions.own → CodeStands G ps p references at (instr op.JUMP (pos target) 0 line ∷ is) → slice_get G.instructions (p.instructions.before + at) ≡ Some (instr op.JUMP (pos (p.instructions.before + target)) 0 line)
  jump_has line at target is inside stands = stands.0 ∙ ap (λ k. Some (instr op.JUMP (pos k) 0 line)) (placed_target target inside)

  -- `JumpFalse`
  pub jump_false_has : (line at target : ℕ) (is : List Instr) → target < p.instructions.own → CodeStands G ps p references at (instr op.JUMP_FALSE (pos target) 0 line ∷ is) → slice_get G.instructions (p.instructions.before + at) ≡ Some (instr op.JUMP_FALSE (pos (p.instructions.before + target)) 0 line)
  jump_false_has line at target is inside stands = stands.0 ∙ ap (λ k. Some (instr op.JUMP_FALSE (pos k) 0 line)) (placed_target target inside)
