use Rattle.std.proofs.Common.{◌≡◌, ◌<◌, length, sym, rules}
use Rattle.ep_rows.proofs.TypeTables.{noted_at}
use Rattle.ep_rows.proofs.type_table.TypeTable.noted.Goals as goal

pub returns-then-note-lt-NONE : goal.returns-then-note-lt-NONE
returns-then-note-lt-NONE c =
    let notes = c.self.inside.notes in
    let keys = c.self.inside.entries.keys in
    let same : keys ≡ c.args.self.now = search rules in
    let within : c.note_place.result < length notes = search rules in
    let low : c.in-Some.note.now.low ≡ c.args.low = search rules in
    let high : c.in-Some.note.now.high ≡ c.args.high = search rules in
    rw (sym same) (noted_at notes keys c.note_place.result _ c.in-Some.note.now c.args.low c.args.high c.self.invariant within c.in-Some.ensures.lookup.1 low high c.if-note-lt-NONE.true)
