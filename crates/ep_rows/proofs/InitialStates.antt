-- Initial states of types, for `init`.
use Rattle.std.proofs.Common.{◌≡◌, ℕ, ℤ, suc, ◌+◌, true, leb, List, Some, ap, arith}
use Rattle.ep_memory.specs.Stores.{Store, live}
use Rattle.ep_object.specs.Effects.{Continues, weighing}
use Rattle.ep_object.specs.Operands.{Operand, one_on_word, weight}
use Rattle.ep_object.specs.State.{TypeTable}
use Rattle.ep_object.specs.Types.{Numbered, entry_of, init_row, initial_entry, interned, words_begin}
use Rattle.ep_rows.proofs.Doing.{done}
use Rattle.ep_rows.proofs.Meeting.{interned_any}
use Rattle.ep_rows.specs.Parts.{typing}
use Rattle.ep_rows.specs.Starts.{given_of}
use Rattle.ep_rows.specs.Steps.{IsDone, IsStep}
use Rattle.ep_rows.specs.declared.starts.Given.{Given}
use Rattle.ep_rows.specs.declared.starts.Given.TheVariants as given
use Rattle.ep_rows.specs.declared.step.Step.{Step}

-- the type with other words to begin with is met
module _ (types : TypeTable) (m : Store) (st rest : List Operand) (x : Operand) (w : ℤ) (n : Numbered) (words : List ℤ)
    (taken : one_on_word st ≡ Some (x, w, rest)) (there : entry_of types w ≡ Some n) (takes : words_begin n x ≡ Continues words) where
  row_is : init_row (typing st types m) ≡ weighing (weight x + n.entry.size) (interned (initial_entry n.number n.entry words) rest (typing rest types m))
  row_is =
      rw (taken, there, takes) (ap (weighing (weight x + n.entry.size)) (interned_any (initial_entry n.number n.entry words) rest st rest types (live m)))

  pub initial_met : (limit ticks ticks2 : ℕ) (types2 : TypeTable) (m2 : Store) (st2 : List Operand) (r : Step)
      → leb (ticks + suc (weight x + n.entry.size)) limit ≡ true → ticks2 ≡ ticks + (weight x + n.entry.size)
      → IsStep (interned (initial_entry n.number n.entry words) rest (typing rest types m)) r (typing st2 types2 m2)
      → IsDone limit (init_row (typing st types m)) r ticks ticks2 (typing st types m) (typing st2 types2 m2)
  initial_met limit ticks ticks2 types2 m2 st2 r room spent step = done limit ticks ticks2 (weight x + n.entry.size) _ _ r _ _ row_is room spent step

-- a word or a set weighs nothing
pub given_weighs : (given : Given) (n : ℕ) → weight (given_of given) + n ≡ n
given_weighs (given.Word w) n = omega arith
given_weighs (given.Set ms) n = omega arith
