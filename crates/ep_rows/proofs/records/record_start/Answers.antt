use Rattle.std.proofs.Common.{◌≡◌, true, false, rules}
use Rattle.ep_rows.proofs.RecordTypes.{no_start, other_start}
use Rattle.ep_rows.specs.Records.{has_start, one_passes}
use Rattle.ep_rows.proofs.records.record_start.Goals as goal

pub returns-in_ok-starts_of_all : goal.returns-in_ok-starts_of_all
returns-in_ok-starts_of_all c =
    let yes : one_passes has_start c.args.types.now c.args.numbers.now ≡ true = search rules in
    other_start c.args.types.now c.args.numbers.now c.requires c.in_ok-starts_of_all.field-0 yes c.in_ok-starts_of_all.ensures

pub returns-else-any_start : goal.returns-else-any_start
returns-else-any_start c =
    let no : one_passes has_start c.args.types.now c.args.numbers.now ≡ false = search rules in
    no_start c.args.types.now c.args.numbers.now c.requires no
