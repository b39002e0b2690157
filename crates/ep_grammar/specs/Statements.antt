-- The productions of statements (ISO 10206, 6.9).
use Rattle.std.specs.Prelude.{ℕ, List, [], ◌∷◌, Option, Some, None}
use Rattle.ep_token.specs.declared.symbol.TheConstants as sym
use Rattle.ep_token.specs.declared.word.TheConstants as word
use Rattle.ep_tree.specs.declared.expression.Access.{Access}
use Rattle.ep_tree.specs.declared.expression.ComponentValue.{ComponentValue}
use Rattle.ep_tree.specs.declared.statement.Statement.{Statement}
use Rattle.ep_tree.specs.declared.statement.Compound.{Compound}
use Rattle.ep_tree.specs.declared.statement.Arm.{Arm}
use Rattle.ep_tree.specs.declared.statement.Otherwise.{Otherwise}
use Rattle.ep_tree.specs.declared.statement.Statement.TheVariants as statement_is
use Rattle.ep_grammar.specs.Classes.{Class, Word}
use Rattle.ep_grammar.specs.Classes.{Sort as sort}
use Rattle.ep_grammar.specs.Descriptions.{statements, Syntax, give, token, line, inside, either, switch, deeper, ◌&◌}
use Rattle.ep_grammar.specs.Descriptions.{◌<*◌, symbol, keyword, optional, separated, closed}
use Rattle.ep_tree.specs.Nodes.{compound_node, arm_node, otherwise_node}
use Rattle.ep_grammar.specs.Expressions.{name, on, on_word, of_name, of_expression, expression, access}
use Rattle.ep_grammar.specs.Expressions.{component_value, labels}

unfoldable pub inner_statements : Syntax (List Statement)
inner_statements = separated sym.SEMICOLON (inside statements)

-- `compound = "begin" stmts "end"`
unfoldable pub compound : Syntax Compound
compound =
    deeper (on_word word.BEGIN) (
    give compound_node & line <* keyword word.BEGIN & inner_statements <* keyword word.END)

unfoldable pub compound_statement : Syntax Statement
compound_statement = give statement_is.Compound & compound

-- an `else` belongs to the nearest `if` that can take it
unfoldable pub else_part : Syntax (Option Statement)
else_part = switch (on_word word.ELSE) (give (λ s. Some s) <* keyword word.ELSE & inside statements) (give None)

-- `"if" expr "then" stmt [ "else" stmt ]`
unfoldable pub if_statement : Syntax Statement
if_statement =
    deeper (on_word word.IF) (
    give statement_is.If & line <* keyword word.IF & expression <* keyword word.THEN & inside statements & else_part)

-- `arm = labels ":" stmt`
unfoldable pub arm : Syntax Arm
arm = deeper of_expression (give arm_node & line & labels <* symbol sym.COLON & inside statements)

unfoldable pub arms : Syntax (List Arm)
arms = closed of_expression arm

-- `other = "otherwise" stmts`
unfoldable pub other : Syntax Otherwise
other = deeper (on_word word.OTHERWISE) (give otherwise_node & line <* keyword word.OTHERWISE & inner_statements)

abbrev pub Arms : Type 0
Arms = List Arm × Option Otherwise

unfoldable pub other_arms : Syntax Arms
other_arms = give (λ o. ([], Some o)) & other

unfoldable pub labelled_arms : Syntax Arms
labelled_arms = give (λ xs o. (xs, o)) & arms & optional (on_word word.OTHERWISE) other

unfoldable pub case_arms : Syntax Arms
case_arms = either (on_word word.OTHERWISE) other_arms labelled_arms

-- `"case" expr "of" ( arm { ";" arm } [ ";" | [ ";" ] other ] | other ) "end"`
unfoldable pub case_statement : Syntax Statement
case_statement =
    deeper (on_word word.CASE) (
    give (λ at e p. statement_is.Case at e p.0 p.1) & line <* keyword word.CASE & expression <* keyword word.OF
    & case_arms <* keyword word.END)

-- `"while" expr "do" stmt`
unfoldable pub while_statement : Syntax Statement
while_statement =
    deeper (on_word word.WHILE) (
    give statement_is.While & line <* keyword word.WHILE & expression <* keyword word.DO & inside statements)

-- `"repeat" stmts "until" expr`
unfoldable pub repeat_statement : Syntax Statement
repeat_statement =
    deeper (on_word word.REPEAT) (
    give statement_is.Repeat & line <* keyword word.REPEAT & inner_statements <* keyword word.UNTIL & expression)

unfoldable pub for_range : Syntax (ℕ → List ℕ → Statement)
for_range =
    give (λ a d b s at n. statement_is.For at n a d b s) <* symbol sym.ASSIGN & expression & token sort.directions
    & expression <* keyword word.DO & inside statements

unfoldable pub for_members : Syntax (ℕ → List ℕ → Statement)
for_members =
    give (λ e s at n. statement_is.ForIn at n e s) <* keyword word.IN & expression <* keyword word.DO
    & inside statements

-- `"for" id ":=" expr ( "to" | "downto" ) expr "do" stmt | "for" id "in" expr "do" stmt`
unfoldable pub for_statement : Syntax Statement
for_statement =
    deeper (on_word word.FOR) (
    give (λ at n r. r at n) & line <* keyword word.FOR & name & either (on_word word.IN) for_members for_range)

unfoldable pub accesses : Syntax (List Access)
accesses = separated sym.COMMA access

-- `"with" access { "," access } "do" stmt`
unfoldable pub with_statement : Syntax Statement
with_statement =
    deeper (on_word word.WITH) (
    give statement_is.With & line <* keyword word.WITH & accesses <* keyword word.DO & inside statements)

abbrev pub assignment_node : ℕ → Access → Option ComponentValue → Statement
assignment_node at a None = statement_is.Call at a
assignment_node at a (Some v) = statement_is.Assignment at a v

-- `access ":=" cvalue | access`
unfoldable pub simple_statement : Syntax Statement
simple_statement =
    give assignment_node & line & access
    & optional (on sym.ASSIGN) (give (λ v. v) <* symbol sym.ASSIGN & component_value)

-- the statements with other statements inside
unfoldable pub loop_statement : Syntax Statement
loop_statement =
    either (on_word word.WHILE) while_statement (
    either (on_word word.REPEAT) repeat_statement (
    either (on_word word.FOR) for_statement with_statement))

abbrev pub of_loop : List Class
of_loop = Word word.WHILE ∷ Word word.REPEAT ∷ Word word.FOR ∷ Word word.WITH ∷ []

-- `stmt`
unfoldable pub statement : Syntax Statement
statement =
    either of_name simple_statement (
    either (on_word word.BEGIN) compound_statement (
    either (on_word word.IF) if_statement (
    either (on_word word.CASE) case_statement (
    either of_loop loop_statement (
    give statement_is.Empty & line)))))
