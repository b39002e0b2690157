-- The verdict on the words of a call and the files: the first reason to refuse it, or the job that is to be done.
use Rattle.std.specs.Prelude.{◌≡◌, ℕ, ◌<◌, ◌≤◌, ⊤, List, [], ◌∷◌, ◌++◌, length, All, Option, Some, None}
use Rattle.ep_outside.specs.Known.{Directory}
use Rattle.ep_typed.specs.declared.unit.Unit.{Unit as TypedUnit}
use Rattle.ep_drive.specs.Commands.{Command, WordsOf}
use Rattle.ep_drive.specs.Commands as commands
use Rattle.ep_drive.specs.ProgramTexts.{HasUnbuilt, HasTree, IsBuilt, IsSound, Joins}
use Rattle.ep_drive.specs.Refusals.{Refusal, Usage, Missing, TooLong, InSource, source_limit, IsOutside, IsRuledOut}
use Rattle.ep_drive.specs.Refusals.{AreAlike}
use Rattle.ep_drive.specs.declared.source.SourceRefusal.{SourceRefusal}
use Rattle.ep_drive.specs.declared.source.SourceRefusal.TheVariants as source

-- what a call has to do: run the program of these texts within a budget of ticks
pub data Job : Type 0 where
  Go : (budget : ℕ) (texts : List (List ℕ)) → Job

-- the call is refused, or a job is begun
pub data Verdict : Type 0 where
  Refuse : Refusal → Verdict
  Begin : Job → Verdict

-- two verdicts that are the same, but for which rule is named of those that fail at one item of one source
abbrev pub IsSameVerdict : Verdict → Verdict → Type 0
IsSameVerdict (Refuse (InSource file why)) (Refuse (InSource other because)) = (file ≡ other) × AreAlike why because
IsSameVerdict verdict other = verdict ≡ other

-- ---- the sources of a command

-- the item stands in the list, and all before it pass
pub record IsFirst {A : Type 0} (Passes : A → Type 0) (item : A) (items : List A) : Type 0 where
  pub before : List A
  pub after : List A
  pub is : items ≡ before ++ item ∷ after
  pub passed : All Passes before

-- the file is there and no longer than a source may be, and this holds of its text
pub record HasText (directory : Directory) (P : List ℕ → Type 0) (file : List ℕ) : Type 0 where
  pub text : List ℕ
  pub is : directory file ≡ Some text
  pub short : length text ≤ source_limit
  pub holds : P text

-- the file is there and no longer than a source may be
abbrev pub IsLoaded : Directory → List ℕ → Type 0
IsLoaded directory file = HasText directory (λ text. ⊤) file

-- these are the texts of the files, in order
abbrev pub AreTexts : Directory → List (List ℕ) → List (List ℕ) → Type 0
AreTexts directory [] [] = ⊤
AreTexts directory (file ∷ files) (text ∷ texts) =
    HasText directory (λ other. other ≡ text) file × AreTexts directory files texts
AreTexts directory _ _ = ⊥

-- The verdict on sources, for a job on their texts. The tests are made in this order, each for all sources in the
-- order of the words.
pub data OfSources (directory : Directory) (sources : List (List ℕ)) (job : List (List ℕ) → Job) : Verdict
    → Type 0 where
  -- the first source that is not loaded is missing
  missing : (file : List ℕ) → IsFirst (IsLoaded directory) file sources → directory file ≡ None
      → OfSources directory sources job (Refuse (Missing file))
  -- or it is too long
  too_long : (file text : List ℕ) → IsFirst (IsLoaded directory) file sources → directory file ≡ Some text
      → source_limit < length text → OfSources directory sources job (Refuse (TooLong file (length text)))
  -- all are loaded, and the first text that has no tree is refused so
  outside : (file : List ℕ) (why : SourceRefusal) → All (IsLoaded directory) sources
      → IsFirst (HasText directory HasTree) file sources → HasText directory (λ text. IsOutside text why) file
      → OfSources directory sources job (Refuse (InSource file why))
  -- all have trees, and the first node that is not built begins on this line of the first text that has one
  not_built : (file : List ℕ) (line : ℕ) → All (HasText directory HasTree) sources
      → IsFirst (HasText directory IsBuilt) file sources → HasText directory (λ text. HasUnbuilt text (Some line)) file
      → OfSources directory sources job (Refuse (InSource file (source.NotBuilt line)))
  -- all are built, and the first text that is no program is ruled out so
  ruled_out : (file : List ℕ) (why : SourceRefusal) → All (HasText directory IsBuilt) sources
      → IsFirst (HasText directory IsSound) file sources → HasText directory (λ text. IsRuledOut text why) file
      → OfSources directory sources job (Refuse (InSource file why))
  -- all are programs, and they join to units
  begin : (texts : List (List ℕ)) (units : List TypedUnit) → AreTexts directory sources texts → Joins texts units
      → OfSources directory sources job (Begin (job texts))

-- ---- the words

-- the verdict on a command, one row for each
abbrev pub OfCommand : Command → Directory → Verdict → Type 0
OfCommand (commands.Go budget sources) directory verdict = OfSources directory sources (Go budget) verdict

-- the verdict on words and a directory: the words are no command, or there is that on the command that they are
pub data IsVerdict (words : List (List ℕ)) (directory : Directory) : Verdict → Type 0 where
  usage : ((command : Command) → WordsOf words command → ⊥) → IsVerdict words directory (Refuse Usage)
  asked : {verdict : Verdict} (command : Command) → WordsOf words command → OfCommand command directory verdict
      → IsVerdict words directory verdict

-- the directory is as the files tell it, where they tell anything
abbrev pub IsTold : Option Directory → Directory → Type 0
IsTold None directory = ⊤
IsTold (Some files) directory = (name : List ℕ) → directory name ≡ files name

-- the files may hold what comes to this verdict
pub record HasVerdict (words : List (List ℕ)) (files : Option Directory) (verdict : Verdict) : Type 0 where
  pub directory : Directory
  pub told : IsTold files directory
  pub is : IsVerdict words directory verdict

-- whatever the files hold besides what they tell, it comes to this verdict
abbrev pub MustHaveVerdict : List (List ℕ) → Option Directory → Verdict → Type 0
MustHaveVerdict words files verdict =
    (directory : Directory) → IsTold files directory → IsVerdict words directory verdict
