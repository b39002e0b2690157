use Rattle.std.proofs.Common.{◌≡◌, Some, slice_get, rules, refl, w64, to_z, of_z}
use Rattle.ep_frames.specs.Members.{set_of}
use Rattle.ep_object.specs.Operands.{place}
use Rattle.ep_object.specs.Places.{store_set}
use Rattle.ep_object.specs.declared.state.TypeKind.TheVariants as kinds
use Rattle.ep_rows.proofs.Indexing.{found}
use Rattle.ep_rows.proofs.sets.store.Goals as goal
use Rattle.ep_rows.specs.Values.{set_stored_at}

pub returns-clause-done : goal.returns-clause-done
returns-clause-done c =
    let p = c.in-Some.p in
    let rest = c.pop_place.new.self in
    let segments = c.args.memory.now.segments in
    let top : place c.args.stack.now ≡ Some (p, rest) = search rules in
    let type : slice_get c.args.types.now p.type_number ≡ Some c.in-Some-get.entry.now = found _ _ _ c.in-Some-get.ensures.lookup.0 c.in-Some-get.ensures.lookup.1 in
    let of : c.in-Some-get.entry.now.kind ≡ kinds.Set c.in-Set.lo c.in-Set.hi = search rules in
    let row : set_stored_at c.args.types.now segments (set_of c.args.set) c.args.stack.now ≡ store_set c.in-Set.lo c.in-Set.hi (set_of c.args.set) segments p rest = rw (top, type, of) refl in
    let lo : to_z w64 (of_z w64 c.in-Set.lo) ≡ c.in-Set.lo = search rules in
    let hi : to_z w64 (of_z w64 c.in-Set.hi) ≡ c.in-Set.hi = search rules in
    rw row (rw (lo, hi) at (c.put.ensures.done rest))
