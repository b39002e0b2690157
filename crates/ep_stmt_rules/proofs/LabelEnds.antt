-- The ends of a label.
use Rattle.std.proofs.Common.{◌≡◌, ℤ, List, Option, Some, None}
use Rattle.ep_tree.specs.declared.expression.Expression.{Expression}
use Rattle.ep_rules.specs.Judgements.{Accepts}
use Rattle.ep_rules.specs.declared.forms.Refusal.{Refusal}
use Rattle.ep_stmt_rules.specs.Answers.{Refuses}
use Rattle.ep_scope.specs.Scopes.{Region}
use Rattle.ep_scope.specs.declared.kind.Host.{Host}
use Rattle.ep_stmt_rules.specs.Cases.{end_judged, range_judged, ranging}
use Rattle.ep_rules.proofs.public.Refusing.{first_refused, part_refused, second_refused}

module _ (scopes : List Region) (h : Host) (low : Expression) where
  -- the refusal of the first end
  pub low_refused : (high : Option Expression) (e : Refusal) → Refuses e (end_judged scopes h low) → Refuses e (range_judged scopes h low high)
  low_refused None e r = part_refused (λ z. ranging z z) e (end_judged scopes h low) r
  low_refused (Some high) e r = first_refused ranging e (end_judged scopes h low) (end_judged scopes h high) r

  -- and of the second one
  pub high_refused : (high : Expression) (e : Refusal) (z : Option ℤ) → end_judged scopes h low ≡ Accepts z → Refuses e (end_judged scopes h high) → Refuses e (range_judged scopes h low (Some high))
  high_refused high e z is r = second_refused ranging e (end_judged scopes h low) (end_judged scopes h high) z is r
