use Rattle.std.proofs.Common.{refl}
use Rattle.ep_check_unit.proofs.Programs.{empty_is}
use Rattle.ep_check_unit.proofs.headings.routine.Goals as goal

pub returns : goal.returns
returns c = rw (c.in_ok-name.ensures, c.in_ok-formals.ensures, c.in_ok-result.ensures, c.in_ok-around.ensures, c.new.ensures, empty_is) refl
