-- What is seen of the outside at one moment of a call, and what a call may leave as it was.
use Rattle.std.specs.Prelude.{◌≡◌, ℕ, ◌≤◌, List, Option}
use Rattle.ep_outside.specs.Known.{Directory, Keeps}
use Rattle.ep_outside.specs.declared.traits.Files.{Ghosts as FilesTell}
use Rattle.ep_outside.specs.declared.traits.Sink.{Ghosts as SinkTells}
use Rattle.ep_outside.specs.declared.traits.Source.{Ghosts as SourceTells}
use Rattle.ep_values.specs.Events.{Outside, Same}

-- what the output, the files, the input and the report tell of their bytes, and how many faults each has had
pub record Seen : Type 0 where
  pub output : Option (List ℕ)
  pub files : Option Directory
  -- what is left of the input
  pub left : Option (List ℕ)
  pub report : Option (List ℕ)
  pub output_faults : ℕ
  pub file_faults : ℕ
  pub input_faults : ℕ
  pub report_faults : ℕ

abbrev pub seen : Option (List ℕ) → Option Directory → Option (List ℕ) → Option (List ℕ) → ℕ → ℕ → ℕ → ℕ → Seen
seen output files left report output_faults file_faults input_faults report_faults = record {
  output = output;
  files = files;
  left = left;
  report = report;
  output_faults = output_faults;
  file_faults = file_faults;
  input_faults = input_faults;
  report_faults = report_faults;
}

-- what these objects tell, by what their types say of them
abbrev pub seen_of : {F I O R : Type 0} → FilesTell F → SourceTells I → SinkTells O → SinkTells R
    → F → I → O → R → Seen
seen_of f i o r files input output report =
    seen (o.held output) (f.files files) (i.left input) (r.held report) (o.faults output) (f.faults files)
    (i.faults input) (r.faults report)

-- what events change: the output and the files
abbrev pub outside_of : Seen → Outside
outside_of s = record { output = s.output; files = s.files }

-- nothing was read: the input is as it was, and so is its count
pub record Unread (before after : Seen) : Type 0 where
  pub left : after.left ≡ before.left
  pub faults : after.input_faults ≡ before.input_faults

-- nothing was done: the output and the files are as they were, and nothing was read
pub record Untouched (before after : Seen) : Type 0 where
  pub same : Same (outside_of before) (outside_of after)
  pub unread : Unread before after

-- nothing was reported
abbrev pub Unreported : Seen → Seen → Type 0
Unreported before after = Keeps before.report after.report

-- no count of faults fell
pub record NoneFell (before after : Seen) : Type 0 where
  pub output : before.output_faults ≤ after.output_faults
  pub files : before.file_faults ≤ after.file_faults
  pub input : before.input_faults ≤ after.input_faults
  pub report : before.report_faults ≤ after.report_faults
