use Rattle.std.proofs.Common.{◌≡◌, pos, Some, get_or, rules, arith}
use Rattle.ep_object.specs.Types.{entry_of}
use Rattle.ep_rows.proofs.RecordTypes.{next_fits}
use Rattle.ep_rows.proofs.records.bare_parts.Goals as goal

pub overflow_add-offset : goal.overflow_add-offset
overflow_add-offset c =
    let i = c.loop-number.number-index in
    let there : entry_of c.args.types.now (get_or c.args.numbers.now i (pos 0)) ≡ Some (record { number = c.in-Some.type_number; entry = c.in-Some.entry.now }) = search rules in
    omega (arith, next_fits c.args.types.now c.args.numbers.now i c.loop-number.offset (pos 0) _ c.loop-number-test.true c.requires c.loop-number.invariant.words there)
