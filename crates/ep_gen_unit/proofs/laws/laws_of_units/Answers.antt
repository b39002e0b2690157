use Rattle.ep_gen_unit.proofs.Objects.{object_implements}
use Rattle.ep_gen_unit.proofs.Routines.{routines_kept}
use Rattle.ep_gen_unit.proofs.Units.{start_simulates, stop_simulates, unit_simulates, unit_stop_simulates}
use Rattle.ep_gen_unit.proofs.laws.laws_of_units.Goals as goal

pub returns : goal.returns
returns c = record {
  starts = λ given u o is valid G ps p stands stand distinct layout laid call steady n kept. unit_simulates u o is G ps p stands given valid stand distinct layout laid call steady n kept;
  starts_under = λ declared layout u o is types alone of_unit many are_declared valid G ps p stands distinct scene call steady n kept. start_simulates u o is G ps p stands declared layout types many are_declared distinct scene call steady n kept alone of_unit valid;
  routines = λ given u o is valid G ps p stands stand distinct layout laid units among n others. routines_kept given u o is valid G ps p stands distinct units among stand layout laid n others;
  stops = λ given u o is valid G ps p stands stand distinct layout laid call steady n kept. unit_stop_simulates u o is G ps p stands given valid stand distinct layout laid call steady n kept;
  stops_under = λ declared layout u o is types alone of_unit many are_declared valid G ps p stands distinct scene call steady n kept. stop_simulates u o is G ps p stands declared layout types many are_declared distinct scene call steady n kept alone of_unit valid;
  implements = object_implements;
}
