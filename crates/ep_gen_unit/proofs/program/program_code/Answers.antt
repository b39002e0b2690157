use Rattle.std.proofs.Common.{◌≡◌, ◌++◌, ◌∷◌, [], length, rules, arith}
use Rattle.ep_gen_unit.specs.UnitCode.{plain_at, routine_at}
use Rattle.ep_gen_unit.proofs.ProgramForms.{if_ok_then, has_parts, is_compact, is_unit, three_pushed}
use Rattle.ep_gen_unit.proofs.program.program_code.Goals as goal

abbrev all_routines : goal.After-assemble → Type 0
all_routines c = c.push-3.new.self ≡ c.in_ok-routines.routines ++ plain_at 0 ∷ plain_at c.in_ok-stop_entry.stop_entry ∷ routine_at c.in_ok-swap_entry.swap_entry 2 0 ∷ []

pushed : (c : goal.After-assemble) → all_routines c
pushed c =
    let start : c.push.new.self ≡ c.in_ok-routines.routines ++ plain_at 0 ∷ [] = search rules in
    let stop : c.push-2.new.self ≡ c.push.new.self ++ plain_at c.in_ok-stop_entry.stop_entry ∷ [] = search rules in
    let swap : c.push-3.new.self ≡ c.push-2.new.self ++ routine_at c.in_ok-swap_entry.swap_entry 2 0 ∷ [] = search rules in
    three_pushed c.in_ok-routines.routines (plain_at 0) (plain_at c.in_ok-stop_entry.stop_entry) (routine_at c.in_ok-swap_entry.swap_entry 2 0) start stop swap

starts : (c : goal.After-assemble) → c.in_ok-start.start ≡ length c.in_ok-routines.routines
starts c = search rules

pub returns-clause-code : goal.returns-clause-code
returns-clause-code c =
    if_ok_then c.assemble.result (λ o is. is_unit c.args.u.now c.in_ok-code.ensures.begun c.in_ok-code.ensures.small c.in_ok-name.name c.in_ok-name.ensures c.in_ok-slots.slots c.in_ok-stop_entry.stop_entry c.in_ok-swap_entry.swap_entry c.in_ok-start.start c.in_ok-stop_entry.ensures
    c.items-2.result.now c.items-2.ensures c.in_ok-routines.routines c.items.result.now c.items.ensures c.in_ok-routines.ensures c.in_ok-swap_entry.ensures c.push-3.new.self c.array_routines_code.new.routines c.types_code.new.routines c.in_ok-array_routines_code.ensures (pushed c) c.items-4.result.now c.items-4.ensures c.in_ok-types_code.ensures (starts c) o is c.in_ok-slots.ensures) c.assemble.ensures

pub returns-clause-program : goal.returns-clause-program
returns-clause-program c =
    if_ok_then c.assemble.result (λ o is. has_parts c.args.u.now c.in_ok-code.ensures.begun c.in_ok-code.ensures.small c.in_ok-name.name c.in_ok-name.ensures c.in_ok-slots.slots c.in_ok-stop_entry.stop_entry c.in_ok-swap_entry.swap_entry c.in_ok-start.start c.in_ok-stop_entry.ensures
    c.items-2.result.now c.items-2.ensures c.in_ok-routines.routines c.items.result.now c.items.ensures c.in_ok-routines.ensures c.in_ok-swap_entry.ensures c.push-3.new.self c.array_routines_code.new.routines c.types_code.new.routines c.in_ok-array_routines_code.ensures (pushed c) c.items-4.result.now c.items-4.ensures c.in_ok-types_code.ensures (starts c) o is) c.assemble.ensures

pub returns-clause-compact : goal.returns-clause-compact
returns-clause-compact c =
    if_ok_then c.assemble.result (λ o is. is_compact c.args.u.now c.in_ok-code.ensures.begun c.in_ok-code.ensures.small c.in_ok-name.name c.in_ok-name.ensures c.in_ok-slots.slots c.in_ok-stop_entry.stop_entry c.in_ok-swap_entry.swap_entry c.in_ok-start.start c.in_ok-stop_entry.ensures
    c.items-2.result.now c.items-2.ensures c.in_ok-routines.routines c.items.result.now c.items.ensures c.in_ok-routines.ensures c.in_ok-swap_entry.ensures c.push-3.new.self c.array_routines_code.new.routines c.types_code.new.routines c.in_ok-array_routines_code.ensures (pushed c) c.items-4.result.now c.items-4.ensures c.in_ok-types_code.ensures (starts c) o is (omega (arith, c.in_ok-next_place.ensures.is_length, c.in_ok-next_place.ensures.small))) c.assemble.ensures
