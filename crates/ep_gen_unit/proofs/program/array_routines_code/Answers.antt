use Rattle.std.proofs.Common.{◌≡◌, ◌++◌, ◌∷◌, [], rules}
use Rattle.ep_gen_unit.specs.UnitCode.{routine_at}
use Rattle.ep_gen_unit.proofs.ProgramForms.{appends_arrays, three_pushed}
use Rattle.ep_gen_unit.proofs.program.array_routines_code.Goals as goal

pub returns : goal.returns
returns c =
    let fill : c.push.new.self ≡ c.args.routines.now ++ routine_at c.in_ok-fill_entry.fill_entry 4 1 ∷ [] = search rules in
    let range : c.push-2.new.self ≡ c.push.new.self ++ routine_at c.in_ok-range_entry.range_entry 3 1 ∷ [] = search rules in
    let spread : c.push-3.new.self ≡ c.push-2.new.self ++ routine_at c.in_ok-spread_entry.spread_entry 5 1 ∷ [] = search rules in
    appends_arrays c.in_ok-fill_entry.fill_entry c.in_ok-range_entry.range_entry c.in_ok-spread_entry.spread_entry c.in_ok-fill_entry.ensures c.in_ok-range_entry.ensures c.in_ok-spread_entry.ensures c.args.routines.now c.push-3.new.self
    (three_pushed c.args.routines.now (routine_at c.in_ok-fill_entry.fill_entry 4 1) (routine_at c.in_ok-range_entry.range_entry 3 1) (routine_at c.in_ok-spread_entry.spread_entry 5 1) fill range spread)
