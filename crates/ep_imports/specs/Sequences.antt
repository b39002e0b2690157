-- What is answered of all imports of a heading or of a block, in the order of the text.
use Rattle.std.specs.Prelude.{◌≡◌, ◌⊎◌, ⊤, ℕ, Bool, List, [], ◌∷◌, ◌++◌, codes, take, slice_get}
use Rattle.std.specs.Prelude.{Option, Some, None, Result, Ok, Err, if◌then◌else◌}
use Rattle.std.specs.List.{list_any}
use Rattle.std.specs.Str.{bytes_eq}
use Rattle.ep_interface.specs.declared.interface.ImportSpec.{ImportSpec}
use Rattle.ep_interface.specs.declared.interface.Interface.{Interface}
use Rattle.ep_imports.specs.Imports.{AnswersImport}
use Rattle.ep_imports.specs.declared.brought.Brought.{Brought}
use Rattle.ep_imports.specs.declared.brought.Imported.{Imported}
use Rattle.ep_imports.specs.declared.brought.ImportRefusal.{ImportRefusal}
use Rattle.ep_imports.specs.declared.brought.ImportRefusal.TheVariants.{NoInterface, NoConstituent, Twice, NoMemory}
use Rattle.ep_imports.specs.declared.brought.RefusedImport.{RefusedImport}

-- `interface.name`
abbrev pub qualified_name : List ℕ → List ℕ → List ℕ
qualified_name interface name = interface ++ codes "." ++ name

-- the spellings by which a name is reached that an import brings: plain ones only where it is not qualified
abbrev pub spellings : List ℕ → Bool → List ℕ → List (List ℕ)
spellings interface qualified name =
    qualified_name interface name ∷ (if qualified then [] else name ∷ [])

-- those of all names of an import
abbrev pub spellings_of : List ℕ → Bool → List Brought → List (List ℕ)
spellings_of interface qualified [] = []
spellings_of interface qualified (b ∷ bs) = spellings interface qualified b.here ++ spellings_of interface qualified bs

-- of all imports
abbrev pub spellings_before : List ImportSpec → List Imported → List (List ℕ)
spellings_before [] imports = []
spellings_before (s ∷ ss) [] = []
spellings_before (s ∷ ss) (i ∷ is) = spellings_of s.interface i.qualified i.brought ++ spellings_before ss is

-- whether one of these spellings is among those
abbrev pub any_among : List (List ℕ) → List (List ℕ) → Bool
any_among spelled before = list_any (λ s. list_any (bytes_eq s) before) spelled

-- the first of these names that is reached by a spelling which another import has brought before
abbrev pub first_shared : List (List ℕ) → List ℕ → Bool → List Brought → Option (List ℕ)
first_shared before interface qualified [] = None
first_shared before interface qualified (b ∷ bs) =
    if any_among (spellings interface qualified b.here) before then Some b.here
    else first_shared before interface qualified bs

-- that of an import
abbrev pub shared_by : List (List ℕ) → ImportSpec → Imported → Option (List ℕ)
shared_by before spec imported = first_shared before spec.interface imported.qualified imported.brought

-- a name of the import, which is opened on its own, is one that others have brought before
abbrev pub IsShared : ImportSpec → List Interface → List (List ℕ) → List ℕ → Type 0
IsShared spec given before name =
    (imported : Imported) × AnswersImport spec given (Ok imported) × (shared_by before spec imported ≡ Some name)

-- of an import behind others, which have brought names with these spellings
abbrev pub AnswersBehind : ImportSpec → List Interface → List (List ℕ) → Result Imported ImportRefusal → Type 0
AnswersBehind spec given before (Ok imported) =
    AnswersImport spec given (Ok imported) × (shared_by before spec imported ≡ None)
AnswersBehind spec given before (Err (NoInterface name)) = AnswersImport spec given (Err (NoInterface name))
AnswersBehind spec given before (Err (NoConstituent name)) = AnswersImport spec given (Err (NoConstituent name))
AnswersBehind spec given before (Err (Twice name)) =
    AnswersImport spec given (Err (Twice name)) ⊎ IsShared spec given before name
AnswersBehind spec given before (Err NoMemory) = ⊤

-- each of these imports is opened, behind those before it
abbrev pub AreOpened : List (List ℕ) → List ImportSpec → List Interface → List Imported → Type 0
AreOpened before [] given [] = ⊤
AreOpened before [] given (i ∷ is) = ⊥
AreOpened before (s ∷ ss) given [] = ⊥
AreOpened before (s ∷ ss) given (i ∷ is) =
    AnswersBehind s given before (Ok i)
    × AreOpened (before ++ spellings_of s.interface i.qualified i.brought) ss given is

-- the import at this place is the first that is refused: those before it are opened
pub record IsFirstRefused (specs : List ImportSpec) (given : List Interface) (place : ℕ)
    (refusal : ImportRefusal) : Type 0 where
  pub spec : ImportSpec
  pub stands : slice_get specs place ≡ Some spec
  pub before : List Imported
  pub opened : AreOpened [] (take place specs) given before
  pub refused : AnswersBehind spec given (spellings_before (take place specs) before) (Err refusal)

-- of imports in the order of the text
abbrev pub AnswersImports : List ImportSpec → List Interface → Result (List Imported) RefusedImport → Type 0
AnswersImports specs given (Ok imports) = AreOpened [] specs given imports
AnswersImports specs given (Err refused) =
    (refused.refusal ≡ NoMemory) ⊎ IsFirstRefused specs given refused.place refused.refusal
