-- What is known of the bytes of an object outside and of its files, and how a call changes it. Where an object
-- tells nothing, nothing is claimed. Bytes that are known stay known. `Keeps`, `Appends`, `Consumes` and
-- `IsAtEnd` are std's words for the same of readers and writers.
use Rattle.std.specs.Prelude.{◌≡◌, ℕ, List, [], ◌++◌, ⊤, length, Option, None, Some, IsSomeAnd, if◌then◌else◌}
use Rattle.std.specs.Prelude.{unwrap_or}
use Rattle.std.specs.Str.{bytes_eq}
pub use Rattle.std.specs.Io.KnownBytes.{Keeps, Appends, Consumes, IsAtEnd}

-- the second text is the first with more after it
pub record IsPrefix {A : Type 0} (front whole : List A) : Type 0 where
  pub rest : List A
  pub is : whole ≡ front ++ rest

-- known bytes grow by a front of the piece
pub record AppendsFront (old new : Option (List ℕ)) (piece : List ℕ) : Type 0 where
  pub front : List ℕ
  pub begins : IsPrefix front piece
  pub grows : Appends old new front

-- the bytes of the file of each name that there is
abbrev pub Directory : Type 0
Directory = List ℕ → Option (List ℕ)

-- the file of that name has these bytes, and all others are as before
abbrev pub with_file : Directory → List ℕ → List ℕ → Directory
with_file files name bytes = λ other. if bytes_eq name other then Some bytes else files other

-- the file of that name is empty
abbrev pub created : List ℕ → Directory → Directory
created name files = with_file files name []

-- the file of that name has these bytes at its end, and is made where it is missing
abbrev pub appended : List ℕ → List ℕ → Directory → Directory
appended name bytes files = with_file files name (unwrap_or (files name) [] ++ bytes)

-- known files change so
abbrev pub ChangesBy : (Directory → Directory) → Option Directory → Option Directory → Type 0
ChangesBy change None new = ⊤
ChangesBy change (Some files) None = ⊥
ChangesBy change (Some files) (Some after) = (name : List ℕ) → after name ≡ change files name

-- known files stay as they were
abbrev pub KeepsFiles : Option Directory → Option Directory → Type 0
KeepsFiles old new = ChangesBy (λ files. files) old new

-- known files change as by an append of a front of the piece, if at all
pub record AppendsFrontTo (name piece : List ℕ) (old new : Option Directory) : Type 0 where
  pub front : List ℕ
  pub begins : IsPrefix front piece
  pub changes : ChangesBy (appended name front) old new

-- where files are known, the file of that name has this content, which is `None` where it is missing
abbrev pub HasFile : Option Directory → List ℕ → Option (List ℕ) → Type 0
HasFile None name content = ⊤
HasFile (Some files) name content = files name ≡ content

-- where files are known, the file of that name is there and has this many bytes
abbrev pub HasLength : Option Directory → List ℕ → ℕ → Type 0
HasLength None name n = ⊤
HasLength (Some files) name n = IsSomeAnd (files name) (λ bytes. length bytes ≡ n)
