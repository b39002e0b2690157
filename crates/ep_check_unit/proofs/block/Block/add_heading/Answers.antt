use Rattle.std.proofs.Common.{rules, ◌≡◌, length, sym, ◌∙◌}
use Rattle.ep_check_unit.specs.Blocks.{block_of}
use Rattle.ep_check_unit.proofs.public.Forms.{first_headed, length_forms}
use Rattle.ep_check_unit.proofs.block.Block.add_heading.Goals as goal

pub returns : goal.returns
returns c =
    let count : c.in_ok-number.number ≡ length c.args.self.now.routines = grind (rules, c.in_ok-number.ensures, c.len.ensures) in
    first_headed c.args.name.now c.args.line c.args.parameters c.args.given (block_of c.args.self.now) (block_of c.add_routine.new.self) _ c.in_ok-number.number c.in_ok-thing.thing (block_of c.enter.new.self)
    c.in_ok-add_routine.ensures
    (rw (c.items.ensures, c.items-around.ensures) at c.in_ok-routine.ensures)
    (count ∙ sym (length_forms c.args.self.now.routines))
    (rw (c.routine_declaration.ensures, c.in_ok-copy.ensures, c.items-2.ensures) at c.in_ok-thing.ensures)
    c.in_ok-enter.ensures
