-- The code's commands and refusals, without where their texts lie.
use Rattle.std.specs.Prelude.{[], ◌∷◌}
use Rattle.ep_drive.specs.declared.words.Command.{Command}
use Rattle.ep_drive.specs.declared.words.Command.TheVariants as command
use Rattle.ep_drive.specs.declared.report.Refusal.{Refusal}
use Rattle.ep_drive.specs.declared.report.Refusal.TheVariants as refusal
use Rattle.ep_drive.specs.Commands as commands
use Rattle.ep_drive.specs.Refusals as refusals

-- what the words ask for
abbrev pub asked_by : Command → commands.Command
asked_by (command.Go budget source) = commands.Go budget (source.now ∷ [])

-- why a call is refused
abbrev pub refused_by : Refusal → refusals.Refusal
refused_by refusal.Usage = refusals.Usage
refused_by (refusal.Missing file) = refusals.Missing file.now
refused_by (refusal.TooLong file bytes) = refusals.TooLong file.now bytes
refused_by (refusal.InSource file why) = refusals.InSource file.now why
