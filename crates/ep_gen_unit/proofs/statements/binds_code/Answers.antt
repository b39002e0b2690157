use Rattle.ep_gen_unit.proofs.WithForms.{binds_more}
use Rattle.ep_gen_unit.proofs.statements.binds_code.Goals as goal

pub loop-record-preserved : goal.loop-record-preserved
loop-record-preserved c = binds_more c.args.code.now c.args.line c.args.records.now c.loop-record.record-index c.record-item.result c.loop-record-test.true c.record-item.is c.loop-record.invariant c.in_ok-bind_code.ensures
