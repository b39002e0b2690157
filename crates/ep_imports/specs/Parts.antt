-- What is kept of imports while they are opened.
use Rattle.std.specs.Prelude.{◌≡◌, ℕ, List, [], ◌∷◌, ◌++◌, slice_get, Option, Some, None, Result, Ok, Err}
use Rattle.std.specs.declared.alloc.AllocError.{AllocError}
use Rattle.std.specs.List.{list_any}
use Rattle.std.specs.Str.{bytes_eq}
use Rattle.ep_interface.specs.declared.interface.ImportSpec.{ImportSpec}
use Rattle.ep_interface.specs.declared.interface.Interface.{Interface}
use Rattle.ep_imports.specs.Brought.{first_doubled, names_here}
use Rattle.ep_imports.specs.Sequences.{AnswersBehind, AreOpened, spellings_before, spellings_of}
use Rattle.ep_imports.specs.declared.brought.Brought.{Brought}
use Rattle.ep_imports.specs.declared.brought.Imported.{Imported}
use Rattle.ep_imports.specs.declared.brought.ImportRefusal.{ImportRefusal}
use Rattle.ep_imports.specs.declared.brought.ImportRefusal.TheVariants.{NoMemory}

-- the place of the first name that is doubled among those from some place on
abbrev pub IsFirstDoubled : List Brought → List Brought → Option ℕ → Type 0
IsFirstDoubled all behind None = first_doubled (names_here behind) ≡ None
IsFirstDoubled all behind (Some place) =
    (one : Brought) × (slice_get all place ≡ Some one) × (first_doubled (names_here behind) ≡ Some one.here)

-- lists that have the same texts
abbrev pub HaveSame : List (List ℕ) → List (List ℕ) → Type 0
HaveSame texts others = (text : List ℕ) → list_any (bytes_eq text) texts ≡ list_any (bytes_eq text) others

-- what is told of an import that is kept, or for which memory is wanting
abbrev pub told_of : Result (Unit {0}) AllocError → Result (Unit {0}) ImportRefusal
told_of (Ok done) = Ok done
told_of (Err e) = Err NoMemory

-- of an import behind others, which is kept with its spellings
abbrev pub AnswersNext : ImportSpec → List Interface → List Imported → List (List ℕ)
    → Result (Unit {0}) ImportRefusal → List Imported → List (List ℕ) → Type 0
AnswersNext spec given imports spelled (Ok done) imports_now spelled_now =
    (imported : Imported) × (imports_now ≡ imports ++ imported ∷ []) × AnswersBehind spec given spelled (Ok imported)
    × HaveSame spelled_now (spelled ++ spellings_of spec.interface imported.qualified imported.brought)
AnswersNext spec given imports spelled (Err refusal) imports_now spelled_now =
    AnswersBehind spec given spelled (Err refusal)

-- the first imports are opened, and these are their spellings
pub record AreUnderway (specs : List ImportSpec) (given : List Interface) (imports : List Imported)
    (spelled : List (List ℕ)) : Type 0 where
  pub opened : AreOpened [] specs given imports
  pub same : HaveSame spelled (spellings_before specs imports)
