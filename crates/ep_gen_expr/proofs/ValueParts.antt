-- The machine follows components of values.
use Rattle.std.proofs.Common.{◌≡◌, ℕ, ℤ, pos, suc, Some, ◌+◌, ◌≤◌, List, [], ◌∷◌, ◌++◌, length, length-append, slice_get, sym, ap, ◌∙◌, subst, arith}
use Rattle.ep_simulation.specs.Follows.{point, Facts, Inside, IsStructure, OnTop}
use Rattle.ep_simulation.specs.Layouts.{Layout}
use Rattle.ep_simulation.specs.Matching.{Injection, Matches, MachineMemory, Slots, at as standing}
use Rattle.ep_object.specs.Operands.{Operand}
use Rattle.ep_object.specs.Operands as operand
use Rattle.ep_object.specs.Placing.{Placement, CodeStands}
use Rattle.ep_object.specs.Runs.{unit_in}
use Rattle.ep_object.specs.declared.code.Image.{Image}
use Rattle.ep_object.specs.declared.code.Instr.{Instr}
use Rattle.ep_object.specs.declared.code.Reference.{Reference}
use Rattle.ep_simulation.proofs.public.following.Choices.{ReadsResult, follows_read, fragment_known}
use Rattle.ep_simulation.proofs.public.following.Fragments.{FailsWith, fragment_bind_number, fragment_credit, fragment_less, fragment_to, inside_bind}
use Rattle.ep_simulation.proofs.public.matching.Awaiting.{value-grown}
use Rattle.ep_simulation.proofs.public.matching.MoreMemory.{unit_in-same}
use Rattle.ep_simulation.proofs.public.rows.PartRows.{field_part, index_part, index_part_fails}
use Rattle.ep_values.specs.Bounds.{component_at}
use Rattle.ep_meaning.specs.Calls.{Handler}
use Rattle.ep_typed.specs.Hosts.{Host}
use Rattle.ep_meaning.specs.Meaning.{eval, part, part_indexed}
use Rattle.ep_values.specs.Printing.{Result, number_of}
use Rattle.ep_meaning.specs.Results.{part_at, part_of, weight_of}
use Rattle.ep_meaning.specs.Steady.{Steady, IsSteadyHandler}
use Rattle.ep_meaning.specs.Steps.{bind}
use Rattle.ep_meaning.specs.Steps as meaning
use Rattle.ep_typed.specs.Trees.{Expr, FieldValue, IndexedValue}
use Rattle.ep_values.specs.TypeValues as type
use Rattle.ep_values.specs.TypeValues.{ComponentTypes, TypeValue, type_among}
use Rattle.ep_meaning.specs.Valid.{IsTypeOfKind, ValueKind, Ordinal, Structured}
use Rattle.ep_meaning.proofs.public.Steady.{steady_bind, steady_eval, steady_fetch, steady_give, steady_spend}
use Rattle.ep_gen_code.specs.Instructions.{bare, instr}
use Rattle.ep_gen_expr.proofs.public.Answering.{Evaluates, IsFollowed}
use Rattle.ep_object.specs.declared.op.TheConstants as op
use Rattle.ep_values.specs.declared.run_error.TheConstants as run_error

module _ (call : Handler) (g : ℕ) (unit : List ℕ) (line : ℕ) (r : Result) where
  steady_part : (k : ℕ) → Steady (part call g unit line r k)
  steady_part k = steady_bind (steady_fetch _ _) (λ x. steady_spend (suc (weight_of x)) (steady_give x))

  steady_element : (z : ℤ) → Steady (part_indexed call g unit line r z)
  steady_element z = steady_bind (steady_fetch _ _) steady_part

module _ {layout : Layout} {G : Image} {untouched : Slots} {Here : Facts} (ps : List Placement) (p : Placement) (references : List Reference) (call : Handler) (steady_call : IsSteadyHandler call) (g : ℕ) (unit : List ℕ) (line n : ℕ) where
  -- The instruction that takes a component of a value, with the step of the form. It spends the words of the value, which the
  -- credit pays that the value left.
  taken_follows : (place : ℕ) (operands below : List Operand) (kind : ValueKind) (r : Result) (k : ℕ) (injection : Injection) (memory : MachineMemory) (d more : ℕ)
      → ((s : meaning.State) → Matches layout G injection s memory → Here injection s memory → ReadsResult layout G Here (standing place operands memory s.trace) (weight_of r) run_error.UNDEFINED_VALUE unit line (place + 1) (λ x. Inside untouched injection memory (OnTop kind below x)) s (part_of r k))
      → d + 8 + weight_of r ≤ more
      → Evaluates layout G untouched Here n injection memory place operands (part call g unit line r k) (place + 1) kind below more (d + 8)
  taken_follows place operands below kind r k injection memory d more reads enough =
      fragment_less {n = suc n} (omega arith) (record { by = λ s matches here. follows_read {e = λ x. d + 8 + weight_of x} (point injection memory place operands) (λ s. part_of r k) s (reads s matches here) (omega (arith, enough)) (λ x. omega (arith, enough)) })

  -- `Field`, where the record is on top
  pub field_taken : (place : ℕ) (below : List Operand) (kind : ValueKind) (ts : ComponentTypes) (r : Result) (o : Operand) (k : ℕ) (of : TypeValue) → type_among ts k ≡ Some of → IsTypeOfKind kind of
      → slice_get G.instructions place ≡ Some (instr op.FIELD (pos k) 0 line)
      → (injection : Injection) (memory : MachineMemory) → IsStructure (type.Record ts) r injection memory o → (d : ℕ) → unit_in G memory.frames ≡ unit
      → Evaluates layout G untouched Here n injection memory place (o ∷ below) (part call g unit line r k) (place + 1) kind below (d + 8 + weight_of r) (d + 8)
  field_taken place below kind ts r o k of among of_kind has injection memory value d home =
      taken_follows place (o ∷ below) below kind r k injection memory d (d + 8 + weight_of r)
      (λ s matches here.
      subst (λ u. ReadsResult layout G Here (standing place (o ∷ below) memory s.trace) (weight_of r) run_error.UNDEFINED_VALUE u line (place + 1) (λ x. Inside untouched injection memory (OnTop kind below x)) s (part_of r k)) home
      (field_part layout G place line below injection memory ts r o value k of among kind of_kind has s matches here))
      (omega arith)

  -- the component of a record that a function gives, by the record and `Field`
  pub field_value_follows : (kind : ValueKind) (ts : ComponentTypes) (k : ℕ) (of : TypeValue) → type_among ts k ≡ Some of → IsTypeOfKind kind of → (x : Expr) (at : ℕ) (xs : List Instr)
      → IsFollowed layout G untouched Here p call g unit n (Structured (type.Record ts)) x line at xs
      → CodeStands G ps p references (at + length xs) (instr op.FIELD (pos k) 0 line ∷ [])
      → IsFollowed layout G untouched Here p call g unit n kind (FieldValue x k) line at (xs ++ instr op.FIELD (pos k) 0 line ∷ [])
  field_value_follows kind ts k of among of_kind x at xs follows has injection memory below d le unit_is =
      let middle : ℕ = p.instructions.before + (at + length xs) in
      let end : ℕ = p.instructions.before + (at + length (xs ++ instr op.FIELD (pos k) 0 line ∷ [])) in
      inside_bind {First = OnTop (Structured (type.Record ts)) below} {e = λ a. d + 8 + weight_of a} (λ a. steady_part call g unit line a k) (follows injection memory below d le unit_is) (λ a longer after pushed grown routine top.
      subst (λ st. Evaluates layout G untouched Here n longer after middle st (part call g unit line a k) end kind below (d + 8 + weight_of a) (d + 8)) (sym top.is)
      (fragment_to (omega (arith, length-append xs (instr op.FIELD (pos k) 0 line ∷ []))) (field_taken middle below kind ts a top.operand k of among of_kind has.0 longer after top.holds d (unit_in-same G routine ∙ unit_is))))

  -- `Index`, where the array and the index are on top
  element_taken : (place : ℕ) (below : List Operand) (kind : ValueKind) (low high : ℤ) (of : TypeValue) (r : Result) (o : Operand) (z : ℤ) → IsTypeOfKind kind of
      → slice_get G.instructions place ≡ Some (instr op.INDEX (pos 0) 0 line)
      → (injection : Injection) (memory : MachineMemory) → IsStructure (type.Array low high of) r injection memory o → (d : ℕ) → unit_in G memory.frames ≡ unit
      → Evaluates layout G untouched Here n injection memory place (operand.Word z ∷ o ∷ below) (part_indexed call g unit line r z) (place + 1) kind below (d + 8 + weight_of r + 8) (d + 8)
  element_taken place below kind low high of r o z of_kind has injection memory value d home =
      let number_is : component_at low high z ≡ part_at r z = sym (ap (λ x. part_at x z) value.is_structure) in
      fragment_known {weight = weight_of r} (part_at r z) (λ k. part call g unit line r k)
      (λ outside s matches.
      subst (λ u. FailsWith G (standing place (operand.Word z ∷ o ∷ below) memory s.trace) (weight_of r) run_error.INDEX u line s) home
      (index_part_fails layout G place line below injection memory low high of r o value z has (number_is ∙ outside) s))
      (omega arith)
      (λ k inside.
      taken_follows place (operand.Word z ∷ o ∷ below) below kind r k injection memory d (d + 8 + weight_of r + 8)
      (λ s matches here.
      subst (λ u. ReadsResult layout G Here (standing place (operand.Word z ∷ o ∷ below) memory s.trace) (weight_of r) run_error.UNDEFINED_VALUE u line (place + 1) (λ x. Inside untouched injection memory (OnTop kind below x)) s (part_of r k)) home
      (index_part layout G place line below injection memory low high of r o value z has k (number_is ∙ inside) kind of_kind s matches here))
      (omega arith))

  -- the component at an index of an array that a function gives, by the array, the index and `Index`
  pub indexed_value_follows : (kind : ValueKind) (h : Host) (low high : ℤ) (of : TypeValue) → IsTypeOfKind kind of → (x y : Expr) (at : ℕ) (xs ys : List Instr)
      → IsFollowed layout G untouched Here p call g unit n (Structured (type.Array low high of)) x line at xs
      → IsFollowed layout G untouched Here p call g unit n (Ordinal h) y line (at + length xs) ys
      → CodeStands G ps p references (at + length xs + length ys) (bare line op.INDEX ∷ [])
      → IsFollowed layout G untouched Here p call g unit n kind (IndexedValue x y) line at (xs ++ (ys ++ bare line op.INDEX ∷ []))
  indexed_value_follows kind h low high of of_kind x y at xs ys array index has injection memory below d le unit_is =
      let middle : ℕ = p.instructions.before + (at + length xs) in
      let last : ℕ = p.instructions.before + (at + length xs + length ys) in
      let end : ℕ = p.instructions.before + (at + length (xs ++ (ys ++ bare line op.INDEX ∷ []))) in
      inside_bind {First = OnTop (Structured (type.Array low high of)) below} {e = λ a. d + 8 + weight_of a} (λ a. steady_bind (steady_eval call steady_call g unit line y) (λ b. steady_element call g unit line a (number_of b))) (array injection memory below d le unit_is) (λ a v1 m1 pushed grown1 routine1 top.
      subst (λ st. Evaluates layout G untouched Here n v1 m1 middle st (bind (eval call g unit line y) (λ b. part_indexed call g unit line a (number_of b))) end kind below (d + 8 + weight_of a) (d + 8)) (sym top.is)
      (fragment_bind_number {host = h} {e = λ b. d + 8 + weight_of a + 8 + weight_of b} (λ b. steady_element call g unit line a (number_of b)) (index v1 m1 (top.operand ∷ below) (d + 8 + weight_of a) (omega (arith, le)) (unit_in-same G routine1 ∙ unit_is)) (λ z v2 m2 of_z grown2 routine2.
      fragment_to (omega (arith, length-append xs (ys ++ bare line op.INDEX ∷ []), length-append ys (bare line op.INDEX ∷ [])))
      (fragment_credit {d = d + 8 + weight_of a + 8} (omega arith) (λ r. omega arith)
      (element_taken last below kind low high of a top.operand z of_kind has.0 v2 m2 (value-grown (Structured (type.Array low high of)) a top.operand grown2 top.holds) d (unit_in-same G routine2 ∙ (unit_in-same G routine1 ∙ unit_is)))))))
