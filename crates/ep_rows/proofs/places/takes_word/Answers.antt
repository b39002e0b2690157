use Rattle.std.proofs.Common.{◌≡◌, ◌∷◌, Some, true, slice_get, rules, ap, ◌∙◌}
use Rattle.ep_memory.specs.Stores.{cell_in, segment_at, with_word_at}
use Rattle.ep_memory.specs.declared.answers.Cell.TheVariants as cell
use Rattle.ep_object.specs.Effects.{Continues, light}
use Rattle.ep_object.specs.Operands.{Place, Word}
use Rattle.ep_object.specs.Places.{is_within, is_word_kind, store_of}
use Rattle.ep_rows.specs.Values.{word_stored}
use Rattle.ep_rows.proofs.Indexing.{found}
use Rattle.ep_rows.proofs.WordRows.{word_put, word_stores, both_taken}
use Rattle.ep_rows.proofs.places.takes_word.Goals as goal

pub returns-clause-done : goal.returns-clause-done
returns-clause-done c =
    let w = c.in-Some.w in
    let p = c.in-Some.p in
    let kind = c.in-Some-get.entry.now.kind in
    let types = c.args.types.now in
    let m = c.args.memory.now in
    let rest = c.pop_word_on_place.new.self in
    let top : c.args.stack.now ≡ Word w ∷ Place p ∷ rest = both_taken c.pop_word_on_place.result c.args.stack.now rest w p c.in-Some.ensures c.pop_word_on_place.ensures in
    let type : slice_get types p.type_number ≡ Some c.in-Some-get.entry.now = found _ _ _ c.in-Some-get.ensures.lookup.0 c.in-Some-get.ensures.lookup.1 in
    let takes : is_word_kind kind ≡ true = search rules in
    let within : is_within kind w ≡ true = search rules in
    let there : cell.Word c.in-Word.field-0 ≡ cell_in (segment_at m p.segment) p.offset = search rules in
    let after : c.store.new.self ≡ with_word_at p.segment p.offset w m = search rules in
    let put : store_of kind m.segments p w rest ≡ Continues (rest, c.store.new.self.segments) = rw after (word_put kind m p w c.in-Word.field-0 rest there within) in
    let row : word_stored types m.segments w (Place p ∷ rest) ≡ Continues (rest, c.store.new.self.segments) = rw (type, takes) put in
    rw top (word_stores types m.segments w (Place p ∷ rest) ∙ ap light row)
