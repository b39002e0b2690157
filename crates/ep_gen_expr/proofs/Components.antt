-- The machine follows what leads to a component of a record, and what reads a variable.
use Rattle.std.proofs.Common.{◌≡◌, ℕ, pos, suc, ◌+◌, ◌≤◌, List, [], ◌∷◌, length, Some, slice_get, refl, sym, ◌∙◌, subst, arith}
use Rattle.ep_gen_code.specs.Instructions.{bare, instr}
use Rattle.ep_gen_expr.specs.ExprCode.{steps_code}
use Rattle.ep_simulation.specs.Follows.{Facts, Fragment, Inside, OnTop, PlaceOnTop, point}
use Rattle.ep_simulation.specs.Layouts.{Layout}
use Rattle.ep_simulation.specs.Matching.{Injection, IsLike, IsSpot, MachineMemory, Slots, at as standing}
use Rattle.ep_object.specs.Operands.{Operand}
use Rattle.ep_object.specs.Operands as operand
use Rattle.ep_object.specs.Placing.{CodeStands, Placement}
use Rattle.ep_object.specs.Runs.{unit_in}
use Rattle.ep_object.specs.declared.code.Image.{Image}
use Rattle.ep_object.specs.declared.code.Reference.{Reference}
use Rattle.ep_object.specs.declared.op.TheConstants as op
use Rattle.ep_object.specs.declared.state.Place.{Place as PlaceOf}
use Rattle.ep_simulation.proofs.public.following.Bind.{follows_give, follows_paid}
use Rattle.ep_simulation.proofs.public.following.Choices.{ReadsResult, follows_read, fragment_using}
use Rattle.ep_simulation.proofs.public.following.Fragments.{FailsWith, fragment_from, fragment_give, fragment_less, fragment_to, inside_bind, landed}
use Rattle.ep_simulation.proofs.public.matching.MoreMemory.{inside_here, not_left-here, unit_in-same}
use Rattle.ep_simulation.proofs.public.rows.FieldRow.{IsAmong, among_there, field_does, field_fails}
use Rattle.ep_simulation.proofs.public.rows.PlaceRows.{load_fails, load_reads}
use Rattle.ep_meaning.proofs.public.Steady.{steady_reached}
use Rattle.ep_meaning.specs.Calls.{Handler}
use Rattle.ep_meaning.specs.Meaning.{reached, read, selected}
use Rattle.ep_meaning.specs.Results.{result_of, weight_of}
use Rattle.ep_meaning.specs.Steady.{IsSteadyHandler}
use Rattle.ep_meaning.specs.Steps.{Component, component}
use Rattle.ep_values.specs.TypeValues as type
use Rattle.ep_values.specs.TypeValues.{ComponentTypes, TypeValue, type_among}
use Rattle.ep_meaning.specs.Valid.{IsTypeOfKind, ValueKind, LeadTo}
use Rattle.ep_values.specs.declared.run_error.TheConstants as run_error

module _ {layout : Layout} {G : Image} {untouched : Slots} {Here : Facts} (call : Handler) (g : ℕ) (unit : List ℕ) (line n : ℕ) where
  -- `Field`, with its step
  pub selected_follows : (place : ℕ) (ts : ComponentTypes) (k : ℕ) (of : TypeValue) → type_among ts k ≡ Some of → slice_get G.instructions place ≡ Some (instr op.FIELD (pos k) 0 line)
      → (injection : Injection) (memory : MachineMemory) (below : List Operand) (a : Component) (q : PlaceOf) (d : ℕ) → 1 ≤ d → unit_in G memory.frames ≡ unit
      → IsSpot injection memory.types a q → IsLike memory.types q.type_number (type.Record ts)
      → Fragment layout G Here n (point injection memory place (operand.Place q ∷ below)) (selected call g unit line a k) (place + 1) (λ c. Inside untouched injection memory (PlaceOnTop of below c)) d (λ c. d)
  selected_follows place ts k of is has injection memory below a q d enough home spot described =
      let among : IsAmong 0 ts k of = among_there 0 ts k of is in
      fragment_less {n = suc n} (omega arith) (fragment_using {n = suc n} {e = λ c. d} a.allocation
      (λ s matches ended. subst (λ u. FailsWith G (standing place (operand.Place q ∷ below) memory s.trace) 0 run_error.DISPOSED u line s) home (field_fails layout G place line below ts k of a q has injection memory spot described among s matches ended)) enough
      (λ s matches here living.
      let z = field_does layout G place line below ts k of a q has injection memory spot described among s matches here living in
      follows_paid {v = 0} {w = 0} {d1 = d} (not_left-here memory.frames) refl z.does (omega arith) (omega arith) (omega arith) (follows_give (component a k) (omega arith) (landed z))))

  -- `Load` of a variable of a type whose values are of the kind
  pub loaded_follows : (place : ℕ) (kind : ValueKind) (t : TypeValue) → IsTypeOfKind kind t → slice_get G.instructions place ≡ Some (bare line op.LOAD)
      → (injection : Injection) (memory : MachineMemory) (below : List Operand) (a : Component) (q : PlaceOf) (d : ℕ) → 1 ≤ d → unit_in G memory.frames ≡ unit
      → IsSpot injection memory.types a q → IsLike memory.types q.type_number t
      → Fragment layout G Here n (point injection memory place (operand.Place q ∷ below)) (read call g unit line a) (place + 1) (λ r. Inside untouched injection memory (OnTop kind below r)) d (λ r. d + 8 + weight_of r)
  loaded_follows place kind t of_kind has injection memory below a q d enough home spot described =
      fragment_less {n = suc n} (omega arith) (fragment_using {n = suc n} {e = λ r. d + 8 + weight_of r} a.allocation
      (λ s matches ended. subst (λ u. FailsWith G (standing place (operand.Place q ∷ below) memory s.trace) 0 run_error.DISPOSED u line s) home (load_fails layout G place line below kind t a q of_kind has injection memory spot described s matches ended)) enough
      (λ s matches here living. follows_read {e = λ r. d + 8 + weight_of r} (point injection memory place (operand.Place q ∷ below)) (result_of a) s
      (subst (λ u. ReadsResult layout G Here (standing place (operand.Place q ∷ below) memory s.trace) 0 run_error.UNDEFINED_VALUE u line (place + 1) (λ r. Inside untouched injection memory (OnTop kind below r)) s (result_of a s)) home
      (load_reads layout G place line below kind t a q of_kind has injection memory spot described s matches here living)) enough (λ r. omega arith)))

module _ {layout : Layout} {G : Image} {untouched : Slots} {Here : Facts} (ps : List Placement) (p : Placement) (references : List Reference) (call : Handler) (steady_call : IsSteadyHandler call) (g : ℕ) (unit : List ℕ) (line n : ℕ) where
  -- steps from the record on top to a component inside of it
  pub reached_follows : (ts : ComponentTypes) (steps : List ℕ) (of : TypeValue) → LeadTo ts steps of → (at : ℕ) → CodeStands G ps p references at (steps_code line steps)
      → (injection : Injection) (memory : MachineMemory) (below : List Operand) (a : Component) (q : PlaceOf) (d : ℕ) → 1 ≤ d → unit_in G memory.frames ≡ unit
      → IsSpot injection memory.types a q → IsLike memory.types q.type_number (type.Record ts)
      → Fragment layout G Here n (point injection memory (p.instructions.before + at) (operand.Place q ∷ below)) (reached call g unit line a steps) (p.instructions.before + (at + length (steps_code line steps))) (λ c. Inside untouched injection memory (PlaceOnTop of below c)) d (λ c. d)
  reached_follows ts [] of leads at stands injection memory below a q d enough home spot described = absurd leads
  reached_follows ts (k ∷ []) of leads at stands injection memory below a q d enough home spot described =
      fragment_to {to = p.instructions.before + at + 1} (omega arith)
      (inside_bind {First = PlaceOnTop of below} {e = λ c. d} (λ c. steady_reached call steady_call g unit line c []) (selected_follows call g unit line n (p.instructions.before + at) ts k of leads stands.0 injection memory below a q d enough home spot described) (λ c longer after pushed grown routine top.
      fragment_give (omega arith) (inside_here top)))
  reached_follows ts (k ∷ j ∷ more) of (us, is, leads) at stands injection memory below a q d enough home spot described =
      let end : ℕ = p.instructions.before + (at + 1 + length (steps_code line (j ∷ more))) in
      fragment_to {to = end} (omega arith)
      (inside_bind {First = PlaceOnTop (type.Record us) below} {e = λ c. d} (λ c. steady_reached call steady_call g unit line c (j ∷ more)) (selected_follows call g unit line n (p.instructions.before + at) ts k (type.Record us) is stands.0 injection memory below a q d enough home spot described) (λ c longer after pushed grown routine top.
      subst (λ st. Fragment layout G Here n (point longer after (p.instructions.before + at + 1) st) (reached call g unit line c (j ∷ more)) end (λ x. Inside untouched longer after (PlaceOnTop of below x)) d (λ x. d)) (sym top.is)
      (fragment_from {place = p.instructions.before + (at + 1)} (omega arith)
      (reached_follows us (j ∷ more) of leads (at + 1) stands.1 longer after below c top.place d enough (unit_in-same G routine ∙ home) top.spot top.described))))
