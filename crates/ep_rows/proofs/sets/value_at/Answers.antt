use Rattle.std.proofs.Common.{sym}
use Rattle.ep_rows.proofs.Indexing.{found}
use Rattle.ep_rows.proofs.WordRows.{set_found}
use Rattle.ep_rows.proofs.sets.value_at.Goals as goal

pub returns : goal.returns
returns c =
    let entry = found _ _ _ c.in-Some.ensures.lookup.0 c.in-Some.ensures.lookup.1 in
    set_found c.args.types.now c.args.memory.now.segments c.args.p c.in-Set.field-0 c.in-Set.field-1 c.in-Some.entry.now c.in-Some-words_of.words.now entry c.in-Set.is c.set_in_words.result (sym c.in-Some-words_of.ensures) c.set_in_words.ensures
