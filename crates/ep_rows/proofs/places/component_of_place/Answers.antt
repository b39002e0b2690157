use Rattle.std.proofs.Common.{◌≡◌, ◌∷◌, slice_get, refl, rules, sym}
use Rattle.ep_object.specs.Operands.{Place, Word}
use Rattle.ep_values.specs.Bounds.{component_at}
use Rattle.ep_rows.proofs.Indexing.{found, index_is}
use Rattle.ep_rows.proofs.places.component_of_place.Goals as goal

pub returns : goal.returns
returns c =
    let array = c.in-Some.ensures.lookup in
    let entry = c.in-Some-get.ensures.lookup in
    let segments = c.args.memory.now.segments in
    let number : c.component_at.result ≡ component_at c.in-Array.lo c.in-Array.hi c.args.w = search rules in
    rw (index_is c.args.types.now segments (Word c.args.w ∷ Place c.args.p ∷ c.args.stack.now) c.args.w c.args.p c.args.stack.now c.in-Array.lo c.in-Array.hi c.in-Array.type_number c.in-Some.array.now c.in-Some-get.entry.now c.in-Some-words_of.words.now (slice_get segments c.args.p.segment) refl (found _ _ _ array.0 array.1) c.in-Array.is (found _ _ _ entry.0 entry.1) refl (sym c.in-Some-words_of.ensures), ← number) c.component_of.ensures
