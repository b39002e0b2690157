-- How a type is met: it has a number in the table, or gets one.
use Rattle.std.specs.Prelude.{◌≡◌, ℕ, List, Option, Result, Ok, Err}
use Rattle.ep_memory.specs.Stores.{Store}
use Rattle.ep_object.specs.Effects.{Effect, Fails}
use Rattle.ep_object.specs.Operands.{Operand}
use Rattle.ep_object.specs.State.{TypeTable}
use Rattle.ep_object.specs.Types.{Typing, numbering}
use Rattle.ep_object.specs.declared.state.TypeEntry.{TypeEntry}
use Rattle.ep_rows.specs.Parts.{typing}
use Rattle.ep_rows.specs.declared.step.Step.{Step}
use Rattle.ep_rows.specs.declared.step.Step.TheVariants.{Error, NoMemory}

-- The answer is the number with which what is done with one goes on, where this table and this store are left, or the
-- error that
-- there is in its place. Nothing is said where memory was wanting.
abbrev pub IsMet : TypeEntry → TypeTable → Store → Result ℕ Step → TypeTable → Store → Type 0
IsMet e types m (Ok number) later after =
    (st : List Operand) (f : ℕ → Typing → Effect Typing)
    → numbering e f (typing st types m) ≡ f number (typing st later after)
IsMet e types m (Err (Error n)) later after =
    (st : List Operand) (f : ℕ → Typing → Effect Typing) → numbering e f (typing st types m) ≡ Fails n
IsMet e types m (Err NoMemory) later after = Unit {0}
IsMet e types m (Err step) later after = ⊥

-- the type with a bare form of this number, or with none
abbrev pub over : TypeEntry → Option ℕ → TypeEntry
over whole bare = record whole { bare = bare }
