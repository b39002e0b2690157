use Rattle.ep_stmt_laws.proofs.valid.Statements.{statements_are_sound}
use Rattle.ep_stmt_laws.proofs.laws.laws_of_statements.Goals as goal

pub returns : goal.returns
returns c =
    let laws = c.laws_of_expressions.ensures in
    statements_are_sound laws.expressions laws.arguments laws.values laws.labels laws.variables
