-- The machine follows what the start of a unit does after the step of its call.
use Rattle.ep_gen_code.specs.Credit.{least_credit}
use Rattle.std.proofs.Common.{◌≡◌, ℕ, ◌+◌, ◌≤◌, List, [], length, ◌∙◌, arith}
use Rattle.ep_gen_unit.specs.StmtCode.{make_all_code}
use Rattle.ep_gen_unit.proofs.Parts.{statement_credit, Moves}
use Rattle.ep_simulation.specs.Follows.{point, Facts, Fragment, Inside, Bare}
use Rattle.ep_simulation.specs.Layouts.{Layout}
use Rattle.ep_simulation.specs.Matching.{Slots, MachineMemory, Injection}
use Rattle.ep_object.specs.Operands.{Operand}
use Rattle.ep_object.specs.Placing.{Placement}
use Rattle.ep_object.specs.Runs.{unit_in}
use Rattle.ep_object.specs.State.{Frames}
use Rattle.ep_object.specs.declared.code.Image.{Image}
use Rattle.ep_object.specs.declared.code.Reference.{Reference}
use Rattle.ep_simulation.proofs.public.following.Fragments.{fragment_bind_bare}
use Rattle.ep_simulation.proofs.public.matching.MoreMemory.{unit_in-same}
use Rattle.ep_typed.specs.Routines.{made_by_unit}
use Rattle.ep_meaning.specs.Steady.{IsSteadyHandler}
use Rattle.ep_meaning.specs.Calls.{Handler}
use Rattle.ep_meaning.proofs.public.Steady.{steady_exec}
use Rattle.ep_meaning.specs.Meaning.{make_all, exec}
use Rattle.ep_meaning.specs.Steps.{bind}
use Rattle.ep_typed.specs.Viewed.{stmt_of}
use Rattle.ep_typed.specs.declared.unit.Unit.{Unit as TypedUnit}

-- no call is under way, and the routine runs in the frame of the object's unit
pub record RunsAtHome (p : Placement) (frames : Frames) : Type 0 where
  pub calls : frames.calls ≡ []
  pub unit : frames.unit ≡ p.unit

module _ (layout : Layout) (G : Image) (untouched : Slots) (Here : Facts) (p : Placement) (call : Handler) (n : ℕ) (u : TypedUnit) where
  -- the machine makes the variables of the unit, in the unit's frame
  abbrev pub MakesFollow : Type 0
  MakesFollow =
      (injection : Injection) (memory : MachineMemory) (below : List Operand) (d : ℕ) → least_credit ≤ d
      → unit_in G memory.frames ≡ u.name → RunsAtHome p memory.frames
      → Fragment layout G Here n (point injection memory (p.instructions.before + 0) below) (make_all call n u.name 0 (made_by_unit u)) (p.instructions.before + length (make_all_code 0 (made_by_unit u))) (λ a. Inside untouched injection memory (Bare below a)) d (λ a. d)

module _ {layout : Layout} {G : Image} {untouched : Slots} {Here : Facts} (ps : List Placement) (p : Placement) (texts : List (List ℕ)) (references : List Reference) (call : Handler) (steady_call : IsSteadyHandler call) (n : ℕ) (u : TypedUnit) (makes : MakesFollow layout G untouched Here p call n u) (to : ℕ)
    (moves : Moves layout G untouched Here ps p texts references call n u.name (length (make_all_code 0 (made_by_unit u))) to (exec call n u.name (stmt_of u.start))) where
  -- after the step of its call the start makes the variables and runs the block, up to the `Return` behind it
  pub body_follows : (injection : Injection) (memory : MachineMemory) (below : List Operand) (d : ℕ)
      → statement_credit ≤ d → unit_in G memory.frames ≡ u.name → RunsAtHome p memory.frames
      → Fragment layout G Here n (point injection memory (p.instructions.before + 0) below) (bind (make_all call n u.name 0 (made_by_unit u)) (λ a. exec call n u.name (stmt_of u.start))) (p.instructions.before + to) (λ a. Inside untouched injection memory (Bare below a)) d (λ a. d)
  body_follows injection memory below d enough home framed =
      fragment_bind_bare {e = λ a. d} (λ a. steady_exec call steady_call n u.name (stmt_of u.start)) (makes injection memory below d (omega arith) home framed) (λ a longer after grown routine.
      moves longer after below d (omega arith) (unit_in-same G routine ∙ home))
