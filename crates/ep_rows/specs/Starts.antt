-- What the row on initial states comes through.
use Rattle.std.specs.Prelude.{◌≡◌, ℕ, ℤ, List, Option, None, Some, Result, Ok, Err}
use Rattle.ep_frames.specs.Members.{set_of}
use Rattle.ep_memory.specs.Stores.{Store}
use Rattle.ep_object.specs.Effects.{Breaks, Continues, Fails, light}
use Rattle.ep_object.specs.Operands.{Operand, one_on_word}
use Rattle.ep_object.specs.Operands as operand
use Rattle.ep_object.specs.State.{TypeTable}
use Rattle.ep_object.specs.Types.{init_row, words_for}
use Rattle.ep_object.specs.declared.state.TypeKind.{TypeKind}
use Rattle.ep_rows.specs.Parts.{typing}
use Rattle.ep_rows.specs.declared.starts.Given.{Given}
use Rattle.ep_rows.specs.declared.starts.Given.TheVariants as given
use Rattle.ep_rows.specs.declared.step.Step.{Step}
use Rattle.ep_rows.specs.declared.step.Step.TheVariants.{Broken, Error, NoMemory}

-- the operand that it was
abbrev pub given_of : Given → Operand
given_of (given.Word w) = operand.Word w
given_of (given.Set ms) = operand.Set (set_of ms)

-- an initial state and the number of a type were taken off, or the code is broken
abbrev pub IsGiven : Option (Given × ℤ) → List Operand → List Operand → Type 0
IsGiven None old new = (types : TypeTable) (m : Store) → init_row (typing old types m) ≡ light Breaks
IsGiven (Some p) old new = one_on_word old ≡ Some (given_of p.0, p.1, new)

-- the words are these, unless memory was wanting
abbrev pub AreWords : List ℤ → Result (List ℤ) Step → Type 0
AreWords ws (Ok words) = words ≡ ws
AreWords ws (Err NoMemory) = Unit {0}
AreWords ws (Err step) = ⊥

-- the words are those with which a variable of the kind begins, or it tells why there are none
abbrev pub AreWordsFor : TypeKind → Operand → Result (List ℤ) Step → Type 0
AreWordsFor k x (Ok words) = (bare : ℕ) → words_for k bare x ≡ Continues words
AreWordsFor k x (Err (Error n)) = (bare : ℕ) → words_for k bare x ≡ Fails n
AreWordsFor k x (Err Broken) = (bare : ℕ) → words_for k bare x ≡ Breaks
AreWordsFor k x (Err NoMemory) = Unit {0}
AreWordsFor k x (Err step) = ⊥
