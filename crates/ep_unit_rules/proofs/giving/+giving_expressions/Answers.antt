use Rattle.std.proofs.Common.{◌≡◌, Some}
use Rattle.ep_tree.specs.declared.expression.Argument.{out-Argument}
use Rattle.ep_tree.specs.declared.expression.Label.{out-Label}
use Rattle.ep_unit_rules.proofs.GivenParts.{argument_by_width, label_by_high}
use Rattle.ep_unit_rules.proofs.giving.+giving_expressions.Goals as goal

pub argument-returns-else-expression : goal.argument-returns-else-expression
argument-returns-else-expression t c =
    let there : (out-Argument c.args.a.now).width ≡ Some c.get-else-expression.result.now = cc in
    argument_by_width c.args.name.now c.args.a.now c.get-else-expression.result.now c.expression-else-expression.result there (rw c.get-in-Some.ensures at c.if-expression.ensures) c.expression-else-expression.ensures

pub label-returns-else-expression : goal.label-returns-else-expression
label-returns-else-expression t c =
    let there : (out-Label c.args.l.now).high ≡ Some c.get-else-expression.result.now = cc in
    label_by_high c.args.name.now c.args.l.now c.get-else-expression.result.now c.expression-else-expression.result there (rw c.get-in-Some.ensures at c.if-expression.ensures) c.expression-else-expression.ensures
