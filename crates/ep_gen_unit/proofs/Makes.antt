-- The machine follows the making of variables.
use Rattle.std.proofs.Common.{◌≡◌, ℕ, pos, suc, ◌+◌, ◌≤◌, ◌<◌, IsTrue, List, [], ◌∷◌, ◌++◌, length, length-append, Some, slice_get, refl, sym, ap, ◌∙◌, subst, arith}
use Rattle.ep_gen_code.specs.Credit.{least_credit}
use Rattle.ep_gen_code.specs.Instructions.{instr}
use Rattle.ep_gen_unit.specs.StmtCode.{make_code, make_all_code}
use Rattle.ep_gen_type.specs.TypeCode.{type_code}
use Rattle.ep_gen_code.specs.Referring.{AreReferred, AreArraysReferred, IsSwapReferred}
use Rattle.ep_gen_type.proofs.public.Elaborating.{elaborates}
use Rattle.ep_simulation.proofs.public.following.Kept.{IsHome}
use Rattle.ep_simulation.specs.Promises.{CallsAreKept}
use Rattle.ep_gen_unit.specs.UnitLaws.{AreDeclared}
use Rattle.ep_gen_unit.proofs.Sized.{fragment_sized, sized_gains}
use Rattle.ep_gen_unit.proofs.Parts.{code_stands-parts}
use Rattle.ep_simulation.specs.Follows.{point, Facts, Lasts, Fragment, Inside, Bare, SameRoutine, TypeOnTop}
use Rattle.ep_simulation.specs.Layouts.{Layout}
use Rattle.ep_simulation.specs.Matching.{AreAmong, Slots, MachineMemory, Injection, Describes, HasType, kept_slots}
use Rattle.ep_object.specs.Operands.{Operand, Word}
use Rattle.ep_object.specs.Placing.{Placement, CodeStands, HasDistinctNames}
use Rattle.ep_object.specs.Runs.{unit_in}
use Rattle.ep_object.specs.State.{Frames}
use Rattle.ep_object.specs.declared.code.Image.{Image}
use Rattle.ep_object.specs.declared.code.ImageUnit.{ImageUnit}
use Rattle.ep_object.specs.declared.code.Reference.{Reference}
use Rattle.ep_simulation.proofs.public.following.Fragments.{inside_bind, fragment_bind_bare, fragment_credit, fragment_give, fragment_to}
use Rattle.ep_simulation.proofs.public.matching.LaidOut.{type_laid}
use Rattle.ep_simulation.proofs.public.matching.MoreMemory.{inside_here, no_calls, unit_in-same}
use Rattle.ep_simulation.specs.Starts.{AreStarts}
use Rattle.ep_simulation.proofs.public.rows.MakeRow.{RunsInUnit, make_does}
use Rattle.ep_simulation.specs.Scene.{AreLaidOut, HaveValidTypes}
use Rattle.ep_object.specs.declared.code.Instr.{Instr}
use Rattle.ep_meaning.specs.Steady.{IsSteadyHandler}
use Rattle.ep_meaning.specs.Calls.{Handler}
use Rattle.ep_typed.proofs.public.Denoters.{types_are_instances}
use Rattle.ep_meaning.proofs.public.Bares.{value_bare}
use Rattle.ep_meaning.proofs.public.Typed.{typed_bare, typed_value}
use Rattle.ep_meaning.proofs.public.Steady.{grows_made, steady_allocate, steady_make_all}
use Rattle.ep_meaning.specs.Meaning.{make, make_all}
use Rattle.ep_meaning.specs.Steps.{Computation, counted, made, allocate}
use Rattle.ep_values.specs.TypeValues.{size_of}
use Rattle.ep_meaning.specs.Valid.{Declarations, IsDenoter, IsTypeValue}
use Rattle.ep_typed.specs.Viewed.{denoter_of}
use Rattle.ep_values.specs.TypeValues.{TypeValue, bare_of}
use Rattle.ep_typed.specs.declared.unit.UnitVariable.{UnitVariable}
use Rattle.ep_object.specs.declared.op.TheConstants as op

-- in the frame of the unit, while the same routine runs
pub same_frame : {untouched : Slots} (G : Image) (x : ImageUnit) (before after : Frames) → SameRoutine untouched before after
    → RunsInUnit G before x → RunsInUnit G after x
same_frame G x before after r h = record { calls = no_calls before.calls after.calls r.calls h.calls; unit = ap (λ k. slice_get G.units k) r.unit ∙ h.unit }

-- a frame of the unit has the slots of its variables, which are none of those that are untouched
abbrev pub VariablesAreFree : Declarations → Image → Slots → ImageUnit → Type 0
VariablesAreFree declared G untouched x = (unit : ℕ) → slice_get G.units unit ≡ Some x
    → (k : ℕ) (v : UnitVariable) → declared.variables x.name k ≡ Some v → IsTrue (untouched.of_units unit k) → ⊥

-- from a place of the object to another one, the machine follows the computation in a frame of the unit and leaves the
-- operands as they were
abbrev pub MovesIn : Layout → Image → Slots → Facts → Placement → ℕ → ImageUnit → ℕ → ℕ
    → Computation (Unit {0}) → Type 0
MovesIn layout G untouched Here p n x at to c =
    (injection : Injection) (memory : MachineMemory) (below : List Operand) (d : ℕ) → least_credit ≤ d
    → RunsInUnit G memory.frames x → unit_in G memory.frames ≡ x.name
    → Fragment layout G Here n (point injection memory (p.instructions.before + at) below) c (p.instructions.before + to) (λ a. Inside untouched injection memory (Bare below a)) d (λ a. d)

module _ (declared : Declarations) (layout : Layout) (G : Image) (untouched : Slots) (Here : Facts) (lasts : Lasts untouched Here) (ps : List Placement) (p : Placement) (references : List Reference) (call : Handler) (steady_call : IsSteadyHandler call) (n : ℕ) (x : ImageUnit) (free : VariablesAreFree declared G untouched x) (distinct : HasDistinctNames G) (types_valid : HaveValidTypes declared) (laid_out : AreLaidOut declared layout) (at_home : IsHome declared x.name declared.types)
    (among : AreAmong untouched (kept_slots layout G)) (kept : CallsAreKept declared layout G ps call n) (referred : AreReferred declared x.name declared.types references) (swap_referred : IsSwapReferred declared x.name references) (arrays_referred : AreArraysReferred declared x.name references) where
  module _ (number line at : ℕ) (v : UnitVariable) (is_declared : declared.variables x.name number ≡ Some v) (within : number < x.slots) where
    -- `Make`, over the number of the type
    make_row_moves : (t : TypeValue) (type_number : ℕ) → IsTypeValue t → AreStarts t
        → ((v : UnitVariable) → layout.variables x.name number ≡ Some v → HasType layout x.name v (bare_of t))
        → (place : ℕ) → slice_get G.instructions place ≡ Some (instr op.MAKE (pos number) 0 line)
        → (injection : Injection) (memory : MachineMemory) (below : List Operand) (d left : ℕ) → 1 ≤ d → left ≤ d → (size_of t ≡ 0 → suc left ≤ d)
        → RunsInUnit G memory.frames x → Describes memory.types type_number t
        → Fragment layout G Here n (point injection memory place (Word (pos type_number) ∷ below)) (allocate x.name number t) (place + 1) (λ a. Inside untouched injection memory (Bare below a)) d (λ a. left)
    make_row_moves t type_number valid starts declared_so place has injection memory below d left enough less empty home described =
        fragment_sized (counted t) (made x.name number t) (λ s. refl) (grows_made x.name number t) enough (size_of t) (sized_gains d left (size_of t) less empty) (λ s matches here. make_does layout G place line below t type_number number x has distinct valid starts declared_so injection memory s home within (free memory.frames.unit home.unit number v is_declared) described lasts matches here)

  -- a variable is made in its slot
  one_moves : (g number at : ℕ) (v : UnitVariable) → declared.variables x.name number ≡ Some v
      → number < x.slots → CodeStands G ps p references at (make_code number v)
      → MovesIn layout G untouched Here p n x at (at + length (make_code number v)) (make call g x.name number v)
  one_moves g number at v is_declared within stands injection memory below d enough home named =
      let types = declared.types in
      let valid : IsDenoter types (denoter_of v.denoter) = types_valid x.name number v is_declared in
      let t : TypeValue = valid.type_value in
      let code : List Instr = type_code v.line (denoter_of v.denoter) in
      let parts = code_stands-parts G ps p references at code (instr op.MAKE (pos number) 0 v.line ∷ []) stands in
      let ends : p.instructions.before + (at + length code) + 1 ≡ p.instructions.before + (at + length (code ++ instr op.MAKE (pos number) 0 v.line ∷ [])) = omega (arith, length-append code (instr op.MAKE (pos number) 0 v.line ∷ [])) in
      let own : bare_of t ≡ t = typed_bare types (denoter_of v.denoter) t valid.typed in
      let has_type : (a : TypeValue) → bare_of a ≡ t → (w : UnitVariable) → layout.variables x.name number ≡ Some w → HasType layout x.name w (bare_of a) =
      λ a is w e. type_laid (laid_out x.name number v is_declared) (bare_of a) (t, types_are_instances types (denoter_of v.denoter) t valid.has_type, own ∙ sym is) w e in
      inside_bind {First = TypeOnTop t below} {e = λ a. d + 4} (λ a. steady_allocate x.name number a)
      (elaborates declared layout G untouched Here lasts ps p references call steady_call n g x.name v.line types at_home among kept referred swap_referred arrays_referred at (denoter_of v.denoter) t valid.typed parts.0 injection memory below d enough named)
      (λ a longer after pushed grown routine top.
      let is_type : IsTypeValue a = value_bare a (subst IsTypeValue (sym top.type_is) (typed_value types (denoter_of v.denoter) t valid.typed)) in
      subst (λ o. Fragment layout G Here n (point longer after (p.instructions.before + (at + length code)) o) (allocate x.name number a) (p.instructions.before + (at + length (code ++ instr op.MAKE (pos number) 0 v.line ∷ []))) (λ b. Inside untouched longer after (Bare below b)) (d + 4) (λ b. d)) (sym top.is)
      (fragment_to ends (fragment_credit {d = d + 4} {e = λ b. d} (omega arith) (λ b. omega arith)
      (make_row_moves number v.line at v is_declared within a top.number is_type top.starts (has_type a top.type_is) (p.instructions.before + (at + length code)) parts.1.0 longer after below (d + 4) d (omega (arith, enough)) (omega arith) (λ e. omega arith) (same_frame G x memory.frames after.frames routine home) top.described))))

  -- and so are the variables from this number on
  all_moves : (g number at : ℕ) (vs : List UnitVariable) → AreDeclared declared x.name number vs
      → number + length vs ≤ x.slots
      → CodeStands G ps p references at (make_all_code number vs)
      → MovesIn layout G untouched Here p n x at (at + length (make_all_code number vs)) (make_all call g x.name number vs)
  all_moves g number at [] are_declared within stands injection memory below d enough home named = fragment_to (omega arith) (fragment_give (omega arith) (inside_here refl))
  all_moves g number at (v ∷ vs) are_declared within stands injection memory below d enough home named =
      let parts = code_stands-parts G ps p references at (make_code number v) (make_all_code (suc number) vs) stands in
      let ends : at + length (make_code number v) + length (make_all_code (suc number) vs) ≡ at + length (make_code number v ++ make_all_code (suc number) vs) = omega (arith, length-append (make_code number v) (make_all_code (suc number) vs)) in
      let first : declared.variables x.name number ≡ Some v = subst (λ k. declared.variables x.name k ≡ Some v) (omega arith) (are_declared 0 v refl) in
      fragment_to (ap (λ k. p.instructions.before + k) ends)
      (fragment_bind_bare {e = λ a. d} (λ a. steady_make_all call steady_call g x.name (suc number) vs) (one_moves g number at v first (omega (arith, within)) parts.0 injection memory below d enough home named) (λ a longer after grown routine.
      all_moves g (suc number) (at + length (make_code number v)) vs (λ i w e. subst (λ k. declared.variables x.name k ≡ Some w) (omega arith) (are_declared (suc i) w e)) (omega (arith, within)) parts.1 longer after below d enough (same_frame G x memory.frames after.frames routine home) (unit_in-same G routine ∙ named)))

  -- the machine follows the making of the variables of a unit, from this number on
  pub make_all_moves : (unit : List ℕ) → x.name ≡ unit
      → (g number at : ℕ) (vs : List UnitVariable) → AreDeclared declared unit number vs
      → number + length vs ≤ x.slots → CodeStands G ps p references at (make_all_code number vs)
      → MovesIn layout G untouched Here p n x at (at + length (make_all_code number vs)) (make_all call g unit number vs)
  make_all_moves unit named g number at vs are_declared within stands =
      subst (λ u. MovesIn layout G untouched Here p n x at (at + length (make_all_code number vs)) (make_all call g u number vs)) named
      (all_moves g number at vs (subst (λ u. AreDeclared declared u number vs) (sym named) are_declared) within stands)
