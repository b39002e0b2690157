-- What each answer of an object outside says of its call.
use Rattle.std.specs.Prelude.{◌≡◌, ℕ, ◌<◌, ◌≤◌, List, [], length, take, Option, None, Some, ◌⊎◌}
use Rattle.ep_outside.specs.Known.{Keeps, Appends, AppendsFront, Consumes, IsAtEnd, Directory, created, appended}
use Rattle.ep_outside.specs.Known.{ChangesBy, KeepsFiles, AppendsFrontTo, HasFile, HasLength}
use Rattle.ep_outside.specs.declared.answers.ReadAnswer.{ReadAnswer}
use Rattle.ep_outside.specs.declared.answers.ReadAnswer.TheVariants as read
use Rattle.ep_outside.specs.declared.answers.WriteAnswer.{WriteAnswer}
use Rattle.ep_outside.specs.declared.answers.WriteAnswer.TheVariants as write
use Rattle.ep_outside.specs.declared.answers.LoadAnswer.{LoadAnswer}
use Rattle.ep_outside.specs.declared.answers.LoadAnswer.TheVariants as load

-- the least number of faults that came with the answer
abbrev pub read_faults : ReadAnswer → ℕ
read_faults (read.Got n) = 0
read_faults read.Failed = 1

abbrev pub write_faults : WriteAnswer → ℕ
write_faults write.Done = 0
write_faults write.Failed = 1
write_faults write.NoMemory = 0

abbrev pub load_faults : LoadAnswer → ℕ
load_faults load.Held = 0
load_faults load.Missing = 0
load_faults (load.TooLong n) = 0
load_faults load.Failed = 1
load_faults load.NoMemory = 0

-- A read that got n bytes put the next n of those that are left in front of the buffer, and got none only where
-- nothing is left. A failed one took nothing.
abbrev pub Reads : ReadAnswer → Option (List ℕ) → Option (List ℕ) → List ℕ → Type 0
Reads (read.Got n) old new into = (n ≤ length into) × Consumes old new (take n into) × (n ≡ 0 → IsAtEnd new)
Reads read.Failed old new into = Keeps old new

-- A write that is done appended the piece, a failed one a front of it, and one without memory nothing.
abbrev pub Writes : WriteAnswer → Option (List ℕ) → Option (List ℕ) → List ℕ → Type 0
Writes write.Done old new piece = Appends old new piece
Writes write.Failed old new piece = AppendsFront old new piece
Writes write.NoMemory old new piece = Keeps old new

-- A load that holds the file has its bytes, at most the limit. It is missing exactly where it is not among the
-- files, and too long exactly where it has that many bytes and they are above the limit; nothing is then loaded.
abbrev pub Loads : LoadAnswer → Option Directory → List ℕ → ℕ → List ℕ → Type 0
Loads load.Held files name limit into = (length into ≤ limit) × HasFile files name (Some into)
Loads load.Missing files name limit into = (into ≡ []) × HasFile files name None
Loads (load.TooLong n) files name limit into = (into ≡ []) × (limit < n) × HasLength files name n
Loads load.Failed files name limit into = into ≡ []
Loads load.NoMemory files name limit into = into ≡ []

-- A create that is done made the file empty, a failed one did that or nothing, and one without memory nothing.
abbrev pub Creates : WriteAnswer → Option Directory → Option Directory → List ℕ → Type 0
Creates write.Done old new name = ChangesBy (created name) old new
Creates write.Failed old new name = KeepsFiles old new ⊎ ChangesBy (created name) old new
Creates write.NoMemory old new name = KeepsFiles old new

-- An append that is done added the piece to the file, a failed one a front of it or nothing, and one without
-- memory nothing.
abbrev pub AppendsTo : WriteAnswer → Option Directory → Option Directory → List ℕ → List ℕ → Type 0
AppendsTo write.Done old new name piece = ChangesBy (appended name piece) old new
AppendsTo write.Failed old new name piece = KeepsFiles old new ⊎ AppendsFrontTo name piece old new
AppendsTo write.NoMemory old new name piece = KeepsFiles old new
