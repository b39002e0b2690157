use Rattle.std.proofs.Common.{◌≡◌, refl, rules, take}
use Rattle.std.specs.Iterator.Adapters.{take_count}
use Rattle.std.proofs.lemmas.Iterator.{YieldsList-from_slice, YieldsList-from_take}
use Rattle.std.proofs.lemmas.Iterator.Search.{position_from_yields_List}
use borrow.Author.Tests.{tests}
use Rattle.ep_object.specs.Types.{same_entry, entry_number}
use Rattle.ep_rows.proofs.TypeTables.{first_in_front}
use Rattle.ep_rows.proofs.type_table.number_in_front.Goals as goal

pub returns-clause-number : goal.returns-clause-number
returns-clause-number c =
    let types = c.args.types.now in
    let entry = c.args.entry.now in
    let front = take_count c.take.result in
    let same : c.position.result ≡ entry_number entry (take front types) =
    position_from_yields_List (same_entry entry) _ _ c.position.result c.position.ensures.ran (YieldsList-from_take front (YieldsList-from_slice types cc) refl) (λ x b q k. search (rules, tests)) in
    first_in_front types entry front c.position.result same
