-- The machine follows `with` statements: the place is found once, and goes into the slot of the variable that stands for it.
use Rattle.std.proofs.Common.{◌≡◌, ℕ, pos, zero, suc, ◌+◌, ◌<◌, List, [], ◌∷◌, Some, Option, length, length-append, slice_get, sym, ap, ◌∙◌, subst, arith, IsTrue}
use Rattle.std.proofs.lemmas.Option.{same_Some}
use Rattle.ep_gen_code.specs.Instructions.{instr}
use Rattle.ep_gen_expr.proofs.public.PlaceTypes.{has_bare_type, valid_place, variable_type}
use Rattle.ep_gen_unit.specs.StmtCode.{IsBindCode, slot_of}
use Rattle.ep_gen_unit.proofs.Makes.{VariablesAreFree}
use Rattle.ep_gen_unit.proofs.Parts.{Moves, PlacesFollow, code_stands-parts}
use Rattle.ep_simulation.specs.Activations.{InActivation}
use Rattle.ep_simulation.specs.Follows.{point, Facts, Lasts, Fragment, Inside, Bare}
use Rattle.ep_simulation.specs.Layouts.{Layout}
use Rattle.ep_simulation.specs.Matching.{Slots, MachineMemory, Injection, IsLike, IsSpot, HasType, HasOwnType, HasTypeUnder}
use Rattle.ep_object.specs.Operands.{Operand}
use Rattle.ep_object.specs.Operands as operand
use Rattle.ep_object.specs.Placing.{Placement, CodeStands, HasDistinctNames}
use Rattle.ep_object.specs.Runs.{unit_in}
use Rattle.ep_simulation.proofs.public.matching.LaidOut.{type_laid}
use Rattle.ep_simulation.specs.Scene.{AreLaidOut, Scene}
use Rattle.ep_object.specs.declared.code.Image.{Image}
use Rattle.ep_object.specs.declared.code.ImageUnit.{ImageUnit}
use Rattle.ep_object.specs.declared.code.Instr.{Instr}
use Rattle.ep_object.specs.declared.code.Reference.{Reference}
use Rattle.ep_object.specs.declared.op.TheConstants as op
use Rattle.ep_object.specs.declared.state.Place.{Place as PlaceOf}
use Rattle.ep_simulation.proofs.public.following.Fragments.{fragment_bind_bare, fragment_bind_place, fragment_credit, fragment_effect, fragment_less, fragment_to}
use Rattle.ep_simulation.proofs.public.matching.MoreMemory.{unit_in-same}
use Rattle.ep_simulation.proofs.public.rows.BindRow.{own_binds, unit_binds}
use Rattle.ep_simulation.proofs.public.rows.MakeRow.{RunsInUnit}
use Rattle.ep_meaning.proofs.public.Steady.{steady_bind, steady_exec, steady_names}
use Rattle.ep_meaning.specs.Calls.{Handler}
use Rattle.ep_typed.specs.Denoters.{bare_type_of}
use Rattle.ep_meaning.specs.Meaning.{exec, names}
use Rattle.ep_meaning.specs.Steady.{IsSteadyHandler}
use Rattle.ep_meaning.specs.Steps.{Component, change, spend, with_bound, with_own_bound}
use Rattle.ep_meaning.specs.Steps as meaning
use Rattle.ep_typed.specs.Trees.{Entire, OfUnit, OfRoutine, Place, Stmt, With}
use Rattle.ep_values.specs.TypeValues.{TypeValue}
use Rattle.ep_values.specs.TypeValues as type
use Rattle.ep_meaning.specs.Valid.{Declarations, IsWith, Level, variables_up}
use Rattle.ep_typed.specs.Viewed.{denoter_of}
use Rattle.ep_typed.specs.declared.unit.UnitType.{UnitType}
use Rattle.ep_typed.specs.declared.unit.UnitVariable.{UnitVariable}

module _ (declared : Declarations) (layout : Layout) (G : Image) (untouched : Slots) (Here : Facts) (ps : List Placement) (p : Placement) (references : List Reference) (call : Handler) (n : ℕ) (unit : List ℕ) where
  -- over the place of a variable of its type, the machine follows the `Bind` of the variable of a `with`
  abbrev pub BindsFollow : Type 0
  BindsFollow =
      (v : Entire) (of : ℕ) (q : Place) (h : IsWith declared v of q) (line at : ℕ) → CodeStands G ps p references at (instr op.BIND (pos (slot_of v)) 0 line ∷ [])
      → (injection : Injection) (memory : MachineMemory) (below : List Operand) (d : ℕ) → unit_in G memory.frames ≡ unit
      → (c : Component) (x : PlaceOf) → IsSpot injection memory.types c x → IsLike memory.types x.type_number (type.Record h.components)
      → Fragment layout G Here n (point injection memory (p.instructions.before + at) (operand.Place x ∷ below)) (names call n unit v c) (p.instructions.before + at + 1) (λ a. Inside untouched injection memory (Bare below a)) d (λ a. d)

-- a variable of a denoter with this type has the type
one_has : (ts : List UnitType) (w : UnitVariable) (t : TypeValue) → bare_type_of ts (denoter_of w.denoter) ≡ Some t → (o : Option UnitVariable) → o ≡ Some w → (u : UnitVariable) → o ≡ Some u → HasTypeUnder ts u t
one_has ts w t has o is u e = subst (λ (x : UnitVariable). HasTypeUnder ts x t) (same_Some w u (sym is ∙ e)) (has_bare_type ts w t has)

module _ {declared : Declarations} {layout : Layout} {G : Image} {untouched kept : Slots} {first : Injection} {start : MachineMemory} (ps : List Placement) (p : Placement) (references : List Reference) (call : Handler) (n : ℕ) (unit : List ℕ)
    (some_level : declared.levels ≡ [] → ⊥) (none_kept : (k : ℕ) → IsTrue (untouched.own k) → ⊥) where
  -- in the activation of a routine
  pub own_binds_follow : BindsFollow declared layout G untouched (InActivation declared kept first start) ps p references call n unit
  own_binds_follow (OfUnit u k) of q h line at stands injection memory below d home c x spot described = absurd (some_level (h.unmade).0)
  own_binds_follow (OfRoutine (suc up) k) of q h line at stands injection memory below d home c x spot described = absurd h.unmade
  own_binds_follow (OfRoutine zero k) of q h line at stands injection memory below d home c x spot described =
      let t : TypeValue = type.Record h.components in
      let w = h.variable in
      let has : (u : UnitVariable) → slice_get (variables_up declared 0) k ≡ Some u → HasOwnType declared u t = λ u e. one_has declared.types w.0 t (w.2).1 (slice_get (variables_up declared 0) k) w.1 u e in
      fragment_less {n = suc n} (omega arith) (fragment_effect {weight = 0} 0 (with_own_bound k c)
      (λ s matches here. own_binds declared layout G (p.instructions.before + at) line k below w.0 t stands.0 w.1 has (none_kept k) injection memory s matches here c x spot described)
      (omega arith) (omega arith) (omega arith))

module _ {declared : Declarations} {layout : Layout} {G : Image} {untouched : Slots} {Here : Facts} (lasts : Lasts untouched Here) (ps : List Placement) (p : Placement) (references : List Reference) (call : Handler) (n : ℕ) (unit : List ℕ)
    (no_level : declared.levels ≡ []) (x : ImageUnit) (named : x.name ≡ declared.home) (free : VariablesAreFree declared G untouched x) (distinct : HasDistinctNames G) (laid_out : AreLaidOut declared layout)
    (slots : (k : ℕ) (v : UnitVariable) → declared.variables x.name k ≡ Some v → k < x.slots)
    (runs : (injection : Injection) (s : meaning.State) (memory : MachineMemory) → Here injection s memory → RunsInUnit G memory.frames x) where
  -- in the frame of a unit
  pub unit_binds_follow : BindsFollow declared layout G untouched Here ps p references call n unit
  unit_binds_follow (OfRoutine (suc up) k) of q h line at stands injection memory below d home c y spot described = absurd h.unmade
  unit_binds_follow (OfRoutine zero k) of q h line at stands injection memory below d home c y spot described =
      let none : slice_get {X = Level} [] 0 ≡ Some (h.unmade).0 = sym (ap (λ ls. slice_get ls 0) no_level) ∙ (h.unmade).1 in absurd cc
  unit_binds_follow (OfUnit u k) of q h line at stands injection memory below d home c y spot described =
      let t : TypeValue = type.Record h.components in
      let w = h.variable in
      let same : u ≡ x.name = (h.unmade).1 ∙ sym named in
      let there : declared.variables x.name k ≡ Some w.0 = subst (λ i. declared.variables i k ≡ Some w.0) same w.1 in
      let typed : bare_type_of declared.types (denoter_of (w.0).denoter) ≡ Some t = (w.2).1 in
      let has : (v : UnitVariable) → layout.variables x.name k ≡ Some v → HasType layout x.name v t = λ v e. type_laid (laid_out x.name k w.0 there) t (has_bare_type declared.types w.0 t typed) v e in
      subst (λ i. Fragment layout G Here n (point injection memory (p.instructions.before + at) (operand.Place y ∷ below)) (spend 1 (change (with_bound i k c))) (p.instructions.before + at + 1) (λ a. Inside untouched injection memory (Bare below a)) d (λ a. d)) (sym same)
      (fragment_less {n = suc n} (omega arith) (fragment_effect {weight = 0} 0 (with_bound x.name k c)
      (λ s matches here.
      let frame = runs injection s memory here in
      unit_binds layout G (p.instructions.before + at) line k below t x stands.0 distinct has injection memory s frame (slots k w.0 there) (free memory.frames.unit frame.unit k w.0 there) lasts matches here c y spot described)
      (omega arith) (omega arith) (omega arith)))

module _ {declared : Declarations} {layout : Layout} {G : Image} {untouched : Slots} {Here : Facts} (ps : List Placement) (p : Placement) (texts : List (List ℕ)) (references : List Reference) (call : Handler) (steady_call : IsSteadyHandler call) (n : ℕ) (unit : List ℕ) (scene : Scene declared layout G ps p texts)
    (places : PlacesFollow declared layout G untouched Here ps p texts references call n unit) (binds : BindsFollow declared layout G untouched Here ps p references call n unit) where
  -- the place and its `Bind`, and then the body
  pub with_parts : (line at : ℕ) (v : Entire) (of : ℕ) (q : Place) (s : Stmt) (xs : List Instr) (to : ℕ) → IsWith declared v of q → IsBindCode texts references line at v q xs → CodeStands G ps p references at xs → at + length xs < p.instructions.own
      → Moves layout G untouched Here ps p texts references call n unit (at + length xs) to (exec call n unit s)
      → Moves layout G untouched Here ps p texts references call n unit at to (exec call n unit (With line v of q s))
  with_parts line at v of q s xs to h code stands inside body injection memory below d enough home =
      let bind : Instr = instr op.BIND (pos (slot_of v)) 0 line in
      let t : TypeValue = type.Record h.components in
      let parts = code_stands-parts G ps p references at code.0 (bind ∷ []) (subst (λ k. CodeStands G ps p references at k) code.2 stands) in
      let size : length xs ≡ length code.0 + 1 = omega (arith, ap length code.2, length-append code.0 (bind ∷ [])) in
      let there : p.instructions.before + (at + length code.0) + 1 ≡ p.instructions.before + (at + length xs) = omega (arith, size) in
      fragment_bind_place {type = t} {e = λ c. d + 8} (λ c. steady_bind (steady_names call steady_call n unit v c) (λ a. steady_exec call steady_call n unit s))
      (places q (valid_place declared (λ types e. bare_type_of types e ≡ Some t) q h.place) t (variable_type declared scene.types_valid scene.own_types_valid t q h.place) line at code.0 code.1 parts.0 (omega (arith, size, inside)) injection memory below d (omega (arith, enough)) home)
      (λ c x longer after grown routine spot described.
      fragment_bind_bare {e = λ a. d} (λ a. steady_exec call steady_call n unit s)
      (fragment_to there (fragment_credit {d = d} {e = λ a. d} (omega arith) (λ a. omega arith) (binds v of q h line (at + length code.0) parts.1 longer after below d (unit_in-same G routine ∙ home) c x spot described)))
      (λ a last final grown2 routine2. body last final below d enough (unit_in-same G routine2 ∙ (unit_in-same G routine ∙ home))))
