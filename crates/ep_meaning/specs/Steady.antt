-- What a computation leaves of the state that it began with.
use Rattle.std.specs.Prelude.{ℕ, IsTrue, List}
use Rattle.ep_outside.specs.Known.{IsPrefix}
use Rattle.ep_meaning.specs.Calls.{Argument, Handler}
use Rattle.ep_meaning.specs.Steps.{State, Computation, state_of}
use Rattle.ep_typed.specs.Trees.{Callee}

-- events are added, and room that was lost stays lost
pub record Grows (before after : State) : Type 0 where
  pub events : IsPrefix before.trace after.trace
  pub lost : IsTrue before.resources.lost → IsTrue after.resources.lost

-- however many steps there are, the state grows
pub record Steady {A : Type 0} (c : Computation A) : Type 0 where
  pub by : (m : ℕ) (s : State) → Grows s (state_of (c m s))

-- whatever is called, the state grows
pub record IsSteadyHandler (call : Handler) : Type 0 where
  pub routine : (from : List ℕ) (line : ℕ) (callee : Callee) (arguments : List Argument)
      → Steady (call.routine from line callee arguments)
  pub named_type : (from : List ℕ) (line index : ℕ) → Steady (call.named_type from line index)
