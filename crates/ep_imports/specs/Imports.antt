-- What is answered of one import.
use Rattle.std.specs.Prelude.{◌≡◌, ⊤, ℕ, List, Option, Some, None, Result, Ok, Err}
use Rattle.ep_interface.specs.declared.interface.ImportSpec.{ImportSpec}
use Rattle.ep_interface.specs.declared.interface.Interface.{Interface}
use Rattle.ep_imports.specs.Brought.{brought, first_absent, first_doubled, names_here}
use Rattle.ep_imports.specs.Offers.{Offered, offered, sole}
use Rattle.ep_imports.specs.declared.brought.Imported.{Imported}
use Rattle.ep_imports.specs.declared.brought.ImportRefusal.{ImportRefusal}
use Rattle.ep_imports.specs.declared.brought.ImportRefusal.TheVariants.{NoInterface, NoConstituent, Twice, NoMemory}

-- of an import of this interface: it is opened where it lists no absent constituent and brings no name twice
abbrev pub AnswersOffered : ImportSpec → Offered → Result Imported ImportRefusal → Type 0
AnswersOffered spec o (Ok imported) =
    (first_absent o.constituents spec.pairs ≡ None)
    × (first_doubled (names_here (brought spec o.constituents)) ≡ None)
    × (imported ≡ record { exporter = o.exporter; qualified = spec.qualified; brought = brought spec o.constituents })
AnswersOffered spec o (Err (NoInterface name)) = ⊥
AnswersOffered spec o (Err (NoConstituent name)) = first_absent o.constituents spec.pairs ≡ Some name
AnswersOffered spec o (Err (Twice name)) =
    (first_absent o.constituents spec.pairs ≡ None)
    × (first_doubled (names_here (brought spec o.constituents)) ≡ Some name)
AnswersOffered spec o (Err NoMemory) = ⊤

-- where none is given so that exactly one exports it
abbrev pub AnswersNone : ImportSpec → Result Imported ImportRefusal → Type 0
AnswersNone spec (Ok imported) = ⊥
AnswersNone spec (Err (NoInterface name)) = name ≡ spec.interface
AnswersNone spec (Err (NoConstituent name)) = ⊥
AnswersNone spec (Err (Twice name)) = ⊥
AnswersNone spec (Err NoMemory) = ⊤

abbrev pub AnswersSole : ImportSpec → Option Offered → Result Imported ImportRefusal → Type 0
AnswersSole spec None result = AnswersNone spec result
AnswersSole spec (Some o) result = AnswersOffered spec o result

-- of an import where these headings are given (ISO 10206, 6.11.3)
abbrev pub AnswersImport : ImportSpec → List Interface → Result Imported ImportRefusal → Type 0
AnswersImport spec given result = AnswersSole spec (sole (offered given spec.interface)) result
