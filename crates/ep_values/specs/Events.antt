-- What a run does to the outside: a trace of events, and how far a call that may fail came with it.
use Rattle.std.specs.Prelude.{◌≡◌, ℕ, List, [], ◌∷◌, ◌++◌, Option, ◌⊎◌}
use Rattle.ep_outside.specs.Known.{Keeps, Appends, AppendsFront, Directory, created, appended, ChangesBy, KeepsFiles}
use Rattle.ep_outside.specs.Known.{AppendsFrontTo}

-- a piece is written to the output, a file is made empty, or bytes are added at the end of a file
pub data Event : Type 0 where
  Write : (piece : List ℕ) → Event
  Create : (name : List ℕ) → Event
  Append : (name : List ℕ) (piece : List ℕ) → Event

-- the events of a run, in order
abbrev pub Trace : Type 0
Trace = List Event

-- all that a trace writes to the output
abbrev pub output_of : Trace → List ℕ
output_of [] = []
output_of (Write piece ∷ rest) = piece ++ output_of rest
output_of (Create name ∷ rest) = output_of rest
output_of (Append name piece ∷ rest) = output_of rest

-- the files after a trace
abbrev pub files_after : Trace → Directory → Directory
files_after [] files = files
files_after (Write piece ∷ rest) files = files_after rest files
files_after (Create name ∷ rest) files = files_after rest (created name files)
files_after (Append name piece ∷ rest) files = files_after rest (appended name piece files)

-- what is told of the output and of the files at one moment
pub record Outside : Type 0 where
  pub output : Option (List ℕ)
  pub files : Option Directory

-- the outside is as it was
pub record Same (old new : Outside) : Type 0 where
  pub output : Keeps old.output new.output
  pub files : KeepsFiles old.files new.files

-- all events of the trace were done, in order, and nothing else
pub record Does (trace : Trace) (old new : Outside) : Type 0 where
  pub output : Appends old.output new.output (output_of trace)
  pub files : ChangesBy (files_after trace) old.files new.files

-- the event is in hand: a front of it may be done, and nothing else
abbrev pub InHand : Event → Outside → Outside → Type 0
InHand (Write piece) old new = AppendsFront old.output new.output piece × KeepsFiles old.files new.files
InHand (Create name) old new =
    Keeps old.output new.output × (KeepsFiles old.files new.files ⊎ ChangesBy (created name) old.files new.files)
InHand (Append name piece) old new =
    Keeps old.output new.output × (KeepsFiles old.files new.files ⊎ AppendsFrontTo name piece old.files new.files)

-- the first event of the trace may be in hand
abbrev pub MayBegin : Trace → Outside → Outside → Type 0
MayBegin [] old new = Same old new
MayBegin (event ∷ rest) old new = Same old new ⊎ InHand event old new

-- some first events of the trace were done, the one after them may be in hand, and nothing else was done
pub record DoesPart (trace : Trace) (old new : Outside) : Type 0 where
  pub done : Trace
  pub left : Trace
  pub is : trace ≡ done ++ left
  pub middle : Outside
  pub does : Does done old middle
  pub begins : MayBegin left middle new

-- all of some first events of the trace were done, in order, and nothing else
pub record DoesFront (trace : Trace) (old new : Outside) : Type 0 where
  pub done : Trace
  pub left : Trace
  pub is : trace ≡ done ++ left
  pub does : Does done old new
