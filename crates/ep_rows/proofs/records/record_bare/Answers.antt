use Rattle.std.proofs.Common.{◌≡◌, true, false, rules}
use Rattle.ep_object.specs.Types.{record_entry}
use Rattle.ep_rows.proofs.RecordTypes.{no_bare, other_bare}
use Rattle.ep_rows.specs.Records.{has_bare, one_passes}
use Rattle.ep_rows.proofs.records.record_bare.Goals as goal

pub returns-then-not-any_bare : goal.returns-then-not-any_bare
returns-then-not-any_bare c =
    let no : one_passes has_bare c.args.types.now c.args.numbers.now ≡ false = search rules in
    no_bare c.args.types.now c.args.numbers.now c.requires c.args.size no

pub returns : goal.returns
returns c =
    let yes : one_passes has_bare c.args.types.now c.args.numbers.now ≡ true = search rules in
    let is : c.plain.result ≡ record_entry c.in_ok-parts.parts c.args.size = search rules in
    rw is (other_bare c.args.types.now c.args.numbers.now c.requires c.args.size c.in_ok-parts.parts yes c.in_ok-parts.ensures)
