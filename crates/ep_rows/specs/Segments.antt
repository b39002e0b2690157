-- How rows end on segments that do not live.
use Rattle.std.specs.Prelude.{Option, Some, None}
use Rattle.ep_object.specs.declared.state.Segment.{Segment}
use Rattle.ep_values.specs.declared.run_error.TheConstants as run_error
use Rattle.ep_rows.specs.declared.step.Step.{Step}
use Rattle.ep_rows.specs.declared.step.Step.TheVariants.{Error, Broken}

-- the code is broken where there never was the segment, and else it is an error
abbrev pub gone_of : Option (Option Segment) → Step
gone_of None = Broken
gone_of (Some s) = Error run_error.DISPOSED

-- an error where a segment lives, and else what comes of one that does not
abbrev pub other_type_at : Option Segment → Step → Step
other_type_at None gone = gone
other_type_at (Some s) gone = Error run_error.TUPLES_DIFFER
