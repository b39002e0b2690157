use Rattle.ep_gen_unit.proofs.public.Programs.{program_tells, program_tells_at_end, program_spends}
use Rattle.ep_gen_unit.proofs.laws.laws_of_programs.Goals as goal

pub returns : goal.returns
returns c = record { tell = program_tells; tell_at_end = program_tells_at_end; spend = program_spends }
