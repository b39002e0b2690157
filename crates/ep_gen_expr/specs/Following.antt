-- The machine follows expressions and places: wherever their code stands in an image, it does what they mean.
use Rattle.std.specs.Prelude.{◌≡◌, ℕ, ℤ, ◌+◌, ◌<◌, ◌≤◌, List, length, Some, slice_get, ⊤}
use Rattle.ep_gen_code.specs.Instructions.{◌▸◌}
use Rattle.ep_gen_code.specs.Credit.{least_credit}
use Rattle.ep_gen_code.specs.Referring.{AreReferred, AreArraysReferred, IsSwapReferred}
use Rattle.ep_gen_expr.specs.ExprCode.{IsPlaceCode, IsExprCode}
use Rattle.ep_simulation.specs.Activations.{MatchesNames}
use Rattle.ep_simulation.specs.Follows.{point, Since, Fragment, Inside, Operands, OnTop, PlaceOnTop}
use Rattle.ep_simulation.specs.Layouts.{Layout}
use Rattle.ep_simulation.specs.Matching.{MachineMemory, Injection, Slots, AreAmong, kept_slots, HasTypeUnder}
use Rattle.ep_simulation.specs.Matching.{HasOwnType}
use Rattle.ep_object.specs.Operands.{Operand}
use Rattle.ep_object.specs.Placing.{Placement, CodeStands}
use Rattle.ep_simulation.specs.Promises.{CallsAreKept}
use Rattle.ep_object.specs.Runs.{unit_in}
use Rattle.ep_simulation.specs.Scene.{Scene}
use Rattle.ep_object.specs.declared.code.Image.{Image}
use Rattle.ep_object.specs.declared.code.Instr.{Instr}
use Rattle.ep_object.specs.declared.code.Reference.{Reference}
use Rattle.ep_meaning.specs.Steady.{IsSteadyHandler}
use Rattle.ep_meaning.specs.Calls.{Handler}
use Rattle.ep_meaning.specs.Meaning.{eval, place}
use Rattle.ep_meaning.specs.Results.{weight_of}
use Rattle.ep_meaning.specs.Steps.{State, Computation}
use Rattle.ep_typed.specs.Selections.{variant_number}
use Rattle.ep_typed.specs.Trees.{Place, Variable, Own, Standard, Indexed, Field, Variant, Expr}
use Rattle.ep_meaning.specs.Valid.{Declarations, ValueKind, IsExpr, IsPlaceWhere, variables_up}
use Rattle.ep_typed.specs.declared.unit.UnitVariable.{UnitVariable}
use Rattle.ep_values.specs.TypeValues.{ComponentTypes, TypeValue, Ordinal, Array, Record, no_component, next_component}
use Rattle.ep_values.specs.TypeValues.{type_among}

-- From every memory of a routine of the unit in which its own variables and those of the routines around it match,
-- with any operands below and up to this number of steps, the machine follows the computation through the code at this
-- place of the object. Behind the code the same routine runs, memory has grown, the slots that are named are
-- untouched, and what held and lasts still does, what the computation gives lies on the operands below, and the credit
-- has risen by this gain.
abbrev pub IsFollowedThrough : {A : Type 0} → Declarations → Layout → Image → Placement → List ℕ → Slots → ℕ → ℕ
    → List Instr → Computation A → (List Operand → A → Operands) → (A → ℕ) → Type 0
IsFollowedThrough declared layout G p unit untouched n at code c Then gain =
    (begun : State) (injection : Injection) (memory : MachineMemory) → MatchesNames declared injection begun memory
    → (below : List Operand) (credit : ℕ) → least_credit ≤ credit → unit_in G memory.frames ≡ unit
    → Fragment layout G (Since untouched injection begun memory) n
    (point injection memory (p.instructions.before + at) below) c (p.instructions.before + (at ▸ code))
    (λ a. Inside untouched injection memory (Then below a)) credit (λ a. credit + gain a)

-- the type value of a place: that of a variable which is declared, of one of the routine or of those around it, or of
-- the
-- components of an array, of a component of a record, or of a variant of one whose tag is of an ordinal type
abbrev pub HasPlaceType : Declarations → Place → TypeValue → Type 0
HasPlaceType declared (Variable unit k) t =
    (v : UnitVariable) × (declared.variables unit k ≡ Some v) × HasTypeUnder declared.types v t
HasPlaceType declared (Own up k) t =
    (v : UnitVariable) × (slice_get (variables_up declared up) k ≡ Some v) × HasOwnType declared v t
HasPlaceType declared (Standard file) t = ⊥
HasPlaceType declared (Indexed p x) t = (low high : ℤ) × HasPlaceType declared p (Array low high t)
HasPlaceType declared (Field p k) t =
    (ts : ComponentTypes) × HasPlaceType declared p (Record ts) × (type_among ts k ≡ Some t)
HasPlaceType declared (Variant p s k) t =
    (ts : ComponentTypes) × (low high : ℤ) × HasPlaceType declared p (Record ts)
    × (type_among ts s.tag ≡ Some (Record (next_component (Ordinal low high) no_component)))
    × (type_among ts (variant_number s k) ≡ Some t)

-- the place is valid, whatever type it has
abbrev pub IsValidPlace : Declarations → Place → Type 0
IsValidPlace declared = IsPlaceWhere declared (λ types d. ⊤)

-- Wherever the code of a place that is valid under the declarations stands in an image with a scene, with more code
-- of the object behind it, the machine follows the place through the code and leaves it on top, of a type that
-- describes the
-- place's, with each number of steps up to which the routines that are declared keep their promises. The slots that
-- are
-- named are among those that calls leave as they are.
abbrev pub PlacesAreFollowed : Type 0
PlacesAreFollowed =
    (declared : Declarations) (layout : Layout) (G : Image) (ps : List Placement) (p : Placement)
    (texts : List (List ℕ)) (references : List Reference)
    → Scene declared layout G ps p texts
    → (call : Handler) → IsSteadyHandler call → (turns : ℕ) (unit : List ℕ) (q : Place) → IsValidPlace declared q
    → (t : TypeValue) → HasPlaceType declared q t
    → (line at : ℕ) (code : List Instr) → IsPlaceCode texts references line at q code
    → CodeStands G ps p references at code → at ▸ code < p.instructions.own
    → p.instructions.before + p.instructions.own ≤ length G.instructions
    → (untouched : Slots) → AreAmong untouched (kept_slots layout G)
    → (n : ℕ) → CallsAreKept declared layout G ps call n
    → unit ≡ declared.home → AreReferred declared unit declared.types references
    → IsSwapReferred declared unit references → AreArraysReferred declared unit references
    → IsFollowedThrough declared layout G p unit untouched n at code (place call turns unit line q) (PlaceOnTop t)
    (λ a. 8)

-- Wherever the code of an expression that is valid under the declarations stands in an image with a scene, with more
-- code
-- of the object behind it, the machine follows its value through the code and leaves the value on top, with each
-- number of
-- steps up to which the routines that are declared keep their promises. The slots that are named are among those that
-- calls
-- leave as they are.
abbrev pub ExpressionsAreFollowed : Type 0
ExpressionsAreFollowed =
    (declared : Declarations) (layout : Layout) (G : Image) (ps : List Placement) (p : Placement)
    (texts : List (List ℕ)) (references : List Reference)
    → Scene declared layout G ps p texts
    → (call : Handler) → IsSteadyHandler call → (turns : ℕ) (unit : List ℕ) (kind : ValueKind) (x : Expr)
    → IsExpr declared kind x
    → (line at : ℕ) (code : List Instr) → IsExprCode texts references line at x code
    → CodeStands G ps p references at code → at ▸ code < p.instructions.own
    → p.instructions.before + p.instructions.own ≤ length G.instructions
    → (untouched : Slots) → AreAmong untouched (kept_slots layout G)
    → (n : ℕ) → CallsAreKept declared layout G ps call n
    → unit ≡ declared.home → AreReferred declared unit declared.types references
    → IsSwapReferred declared unit references → AreArraysReferred declared unit references
    → IsFollowedThrough declared layout G p unit untouched n at code (eval call turns unit line x) (OnTop kind)
    (λ r. 8 + weight_of r)
