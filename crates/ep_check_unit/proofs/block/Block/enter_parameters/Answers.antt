use Rattle.std.proofs.Common.{refl, sym, subst, ◌∙◌}
use Rattle.std.proofs.lemmas.Result.{err_from_is_err_and}
use Rattle.ep_rules.specs.Answers.{Refuses}
use Rattle.ep_check_unit.specs.Units.{parameter_entered, parameters_entered, standard_file}
use Rattle.ep_check_unit.proofs.Parameters.{next_is_file}
use Rattle.ep_check_unit.proofs.Rounds.{item_refused}
use Rattle.ep_check_unit.specs.Blocks.{block_of}
use Rattle.ep_check_unit.proofs.block.Block.enter_parameters.Goals as goal

pub returns-in_err-enter-in-Some : goal.returns-in_err-enter-in-Some
returns-in_err-enter-in-Some c = let p = err_from_is_err_and c.from_residual.result c.from_residual.ensures.1 in rw (p.1, p.2) (item_refused parameters_entered (λ name b. parameter_entered name (standard_file name) b) (λ x xs b. refl) c.args.names.now c.loop-name.name-index c.name-item.result (block_of c.args.self.now) (block_of c.loop-name.self) c.in_err-enter-in-Some.field-0.0 c.loop-name-test.true c.name-item.is c.loop-name.invariant.same (subst (λ f. Refuses c.in_err-enter-in-Some.field-0.0 (parameter_entered c.name-item.result f (block_of c.loop-name.self))) (sym (sym c.standard_file.ensures ∙ c.in-Some.is)) c.in_err-enter-in-Some.ensures))

pub unreachable-requires : goal.unreachable-requires
unreachable-requires c = next_is_file c.args.names.now c.loop-name.name-index c.name-item.result c.loop-name-test.true c.name-item.is c.loop-name.invariant.known (sym c.standard_file.ensures ∙ c.in-None.is)
