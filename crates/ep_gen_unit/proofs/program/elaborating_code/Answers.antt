use Rattle.ep_gen_unit.proofs.ProgramForms.{appends_type}
use Rattle.ep_gen_unit.proofs.program.elaborating_code.Goals as goal

pub returns : goal.returns
returns c = appends_type c.args.code.now c.args.t.now c.in_ok-entry.entry c.definition_line-code.result c.in_ok-entry.ensures c.definition_line-code.ensures c.in_ok-elaborate.ensures c.in_ok-emit.ensures
