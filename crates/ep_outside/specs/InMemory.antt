-- What the forms in memory hold, which of their calls fail, and what a failing call keeps.
use Rattle.std.specs.Prelude.{◌/◌, ℕ, List, length, take, Option, Some, ⊤, ◌⊎◌}
use Rattle.ep_outside.specs.FileTables.{directory_of}
use Rattle.ep_outside.specs.Known.{Keeps, Appends, Directory, appended, ChangesBy, KeepsFiles}
use Rattle.ep_outside.specs.Remainders.{bytes_left}
use Rattle.ep_outside.specs.Schedules.{faults_of}
use Rattle.ep_outside.specs.declared.answers.WriteAnswer.{WriteAnswer}
use Rattle.ep_outside.specs.declared.answers.WriteAnswer.TheVariants as write
use Rattle.ep_outside.specs.declared.mem_files.MemFiles.{MemFiles}
use Rattle.ep_outside.specs.declared.mem_files.SureFiles.{SureFiles}
use Rattle.ep_outside.specs.declared.mem_sink.MemSink.{MemSink}
use Rattle.ep_outside.specs.declared.mem_sink.SureSink.{SureSink}
use Rattle.ep_outside.specs.declared.mem_source.MemSource.{MemSource}
use Rattle.ep_outside.specs.declared.mem_source.SureSource.{SureSource}
use Rattle.ep_outside.specs.declared.schedule.Schedule.{Schedule}

-- of a source each `read` is a counted call
abbrev pub source_schedule : MemSource → Schedule
source_schedule s = s.schedule

abbrev pub source_left : MemSource → Option (List ℕ)
source_left s = Some (bytes_left s.remainder)

abbrev pub source_faults : MemSource → ℕ
source_faults s = faults_of s.schedule

abbrev pub sure_left : SureSource → Option (List ℕ)
sure_left s = Some (bytes_left s.remainder)

-- of a sink each `write`
abbrev pub sink_schedule : MemSink → Schedule
sink_schedule s = s.schedule

abbrev pub sink_held : MemSink → Option (List ℕ)
sink_held s = Some s.held.items

abbrev pub sink_faults : MemSink → ℕ
sink_faults s = faults_of s.schedule

abbrev pub sure_held : SureSink → Option (List ℕ)
sure_held s = Some s.held.items

-- of files each `load`, `create` and `append`
abbrev pub files_schedule : MemFiles → Schedule
files_schedule s = s.schedule

abbrev pub file_map : MemFiles → Option Directory
file_map s = Some (directory_of s.table)

abbrev pub files_faults : MemFiles → ℕ
files_faults s = faults_of s.schedule

abbrev pub sure_map : SureFiles → Option Directory
sure_map s = Some (directory_of s.table)

-- the first half of a piece, rounded down
abbrev pub first_half : List ℕ → List ℕ
first_half piece = take (length piece / 2) piece

-- A write that failed appended the first half of the piece, or nothing where memory is wanting for it.
abbrev pub WritesHalf : WriteAnswer → Option (List ℕ) → Option (List ℕ) → List ℕ → Type 0
WritesHalf write.Done old new piece = ⊤
WritesHalf write.Failed old new piece = Appends old new (first_half piece) ⊎ Keeps old new
WritesHalf write.NoMemory old new piece = ⊤

-- An append that failed added the first half of the piece to the file, or did nothing where memory is wanting.
abbrev pub AppendsHalf : WriteAnswer → Option Directory → Option Directory → List ℕ → List ℕ → Type 0
AppendsHalf write.Done old new name piece = ⊤
AppendsHalf write.Failed old new name piece = ChangesBy (appended name (first_half piece)) old new ⊎ KeepsFiles old new
AppendsHalf write.NoMemory old new name piece = ⊤

-- A create that failed did nothing.
abbrev pub CreatesNothing : WriteAnswer → Option Directory → Option Directory → Type 0
CreatesNothing write.Done old new = ⊤
CreatesNothing write.Failed old new = KeepsFiles old new
CreatesNothing write.NoMemory old new = ⊤
