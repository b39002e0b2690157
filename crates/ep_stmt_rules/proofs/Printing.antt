-- The refusal of what is written for a parameter, by its value.
use Rattle.std.proofs.Common.{List, sym, subst}
use Rattle.ep_tree.specs.declared.expression.Argument.{Argument, out-Argument}
use Rattle.ep_scope.specs.Scopes.{Region}
use Rattle.ep_check_expr.specs.Expressions.{given, judged}
use Rattle.ep_rules.specs.Judgements.{Accepts, when_accepted}
use Rattle.ep_rules.specs.declared.forms.Refusal.{Refusal}
use Rattle.ep_check_expr.proofs.public.Nodes.{given-value}
use Rattle.ep_stmt_rules.specs.Answers.{Refuses}
use Rattle.ep_stmt_rules.specs.Statements.{item_form, item_judged, shown, width_judged}
use Rattle.ep_rules.proofs.public.Refusing.{first_refused}

-- what is no value that can be written is refused with its parameter
pub shown_falls : (scopes : List Region) (a : Argument) (e : Refusal) → Refuses e (when_accepted shown (judged scopes (out-Argument a).value)) → Refuses e (item_judged (given scopes a))
shown_falls scopes a e h =
    first_refused (λ value width. Accepts (item_form value.print value.form width)) e (when_accepted shown (given scopes a).value) (width_judged (given scopes a).width)
    (subst (λ j. Refuses e (when_accepted shown j)) (sym (given-value scopes a)) h)
