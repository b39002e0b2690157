use Rattle.std.proofs.Common.{◌≡◌, Some, true, slice_get, rules, sym}
use Rattle.ep_memory.specs.Stores.{cell_in, segment_at, with_word_at}
use Rattle.ep_memory.specs.declared.answers.Cell.TheVariants as cell
use Rattle.ep_object.specs.Effects.{Continues}
use Rattle.ep_object.specs.Operands.{place}
use Rattle.ep_object.specs.Places.{is_within, is_word_kind, store_of}
use Rattle.ep_rows.proofs.Indexing.{found}
use Rattle.ep_rows.proofs.WordRows.{word_put}
use Rattle.ep_rows.proofs.places.store_word.Goals as goal

pub returns-clause-done : goal.returns-clause-done
returns-clause-done c =
    let p = c.in-Some.p in
    let kind = c.in-Some-get.entry.now.kind in
    let m = c.args.memory.now in
    let rest = c.pop_place.new.self in
    let top : place c.args.stack.now ≡ Some (p, rest) = search rules in
    let type : slice_get c.args.types.now p.type_number ≡ Some c.in-Some-get.entry.now = found _ _ _ c.in-Some-get.ensures.lookup.0 c.in-Some-get.ensures.lookup.1 in
    let takes : is_word_kind kind ≡ true = search rules in
    let within : is_within kind c.args.w ≡ true = search rules in
    let there : cell.Word c.in-Word.field-0 ≡ cell_in (segment_at m p.segment) p.offset = search rules in
    let after : c.store.new.self ≡ with_word_at p.segment p.offset c.args.w m = search rules in
    let put : store_of kind m.segments p c.args.w rest ≡ Continues (rest, c.store.new.self.segments) = rw after (word_put kind m p c.args.w c.in-Word.field-0 rest there within) in
    rw (top, type, takes) (sym put)
