-- What the static rules say of the selector and the labels of a `case` statement (ISO 10206, 6.9.3.5).
--
-- They belong to the statement itself. A label is judged for the host of the selector, and no value stands in two
-- labels.
use Rattle.std.specs.Prelude.{ℤ, int_le, Bool, true, false, List, [], ◌∷◌, ◌++◌, Option, Some, None, if◌then◌else◌}
use Rattle.std.specs.List.{list_all}
use Rattle.ep_tree.specs.declared.expression.Expression.{Expression}
use Rattle.ep_tree.specs.declared.expression.Label.{Label, out-Label}
use Rattle.ep_typed.specs.CaseRanges.{is_apart}
use Rattle.ep_typed.specs.Trees.{Expr}
use Rattle.ep_typed.specs.declared.tree.CaseRange.{CaseRange}
use Rattle.ep_typed.specs.declared.value.Value.{Value}
use Rattle.ep_typed.specs.declared.value.Value.TheVariants as value
use Rattle.ep_scope.specs.Kinds.{same_host}
use Rattle.ep_scope.specs.Scopes.{Region}
use Rattle.ep_scope.specs.declared.kind.Host.{Host}
use Rattle.ep_scope.specs.declared.kind.Kind.{Kind}
use Rattle.ep_scope.specs.declared.kind.Kind.TheVariants as kind
use Rattle.ep_scope.specs.declared.rule.TheConstants as rule
use Rattle.ep_check_expr.specs.Constants.{label_judged}
use Rattle.ep_check_expr.specs.Expressions.{judged}
use Rattle.ep_rules.specs.Judgements.{Judged, Accepts, Breaks, when_accepted, both}
use Rattle.ep_stmt_rules.specs.declared.cases.Labels.{Labels}

-- a selector that is accepted: its host, and its form where all of the statement's own parts are built
pub record CaseSelector : Type 0 where
  pub host : Host
  pub form : Option Expr

-- a selector is of an ordinal type
abbrev pub selecting : Kind → Option Expr → Judged CaseSelector
selecting (kind.Ordinal h) form = Accepts (record { host = h; form = form })
selecting _ form = Breaks (rule.ORDINAL ∷ [])

-- an end of a label for a selector of this host: its value, where it is built
abbrev pub fitting : Host → Kind → Value → Bool → Judged (Option ℤ)
fitting h (kind.Ordinal g) (value.Word z) built =
    if same_host h g then Accepts (if built then Some z else None) else Breaks (rule.CASE_LABELS ∷ [])
fitting h _ _ built = Breaks (rule.CASE_LABELS ∷ [])

-- the values from one to another, which is not below it, where both are built
abbrev pub ranging : Option ℤ → Option ℤ → Judged (Option CaseRange)
ranging (Some low) (Some high) =
    if int_le low high then Accepts (Some (record { low = low; high = high })) else Breaks (rule.CASE_LABELS ∷ [])
ranging _ _ = Accepts None

-- no label yet
abbrev pub no_labels : Labels
no_labels = record { ranges = []; built = true }

-- one label more, which has no value of those before it
abbrev pub added : Labels → Option CaseRange → Judged Labels
added found None = Accepts (record found { built = false })
added found (Some r) =
    if list_all (λ s. is_apart s r) found.ranges then Accepts (record found { ranges = found.ranges ++ r ∷ [] })
    else Breaks (rule.CASE_LABELS ∷ [])

-- an arm has at least one label, as the grammar says
abbrev pub at_least_one : List CaseRange → Judged (Option (List CaseRange))
at_least_one [] = Breaks (rule.CASE_LABELS ∷ [])
at_least_one (r ∷ rs) = Accepts (Some (r ∷ rs))

-- the ranges of labels, where all are built
abbrev pub ranges_formed : Labels → Judged (Option (List CaseRange))
ranges_formed found = if found.built then at_least_one found.ranges else Accepts None

module _ (scopes : List Region) where
  -- an end of a label
  abbrev pub end_judged : Host → Expression → Judged (Option ℤ)
  end_judged h e = when_accepted (λ c. fitting h c.kind c.value c.built) (label_judged scopes e)

  abbrev pub range_judged : Host → Expression → Option Expression → Judged (Option CaseRange)
  range_judged h low None = when_accepted (λ z. ranging z z) (end_judged h low)
  range_judged h low (Some high) = both ranging (end_judged h low) (end_judged h high)

  -- a label after others
  abbrev pub label_taken : Host → Label → Labels → Judged Labels
  label_taken h l found = when_accepted (added found) (range_judged h (out-Label l).low (out-Label l).high)

  -- labels one after another
  abbrev pub labels_taken : Host → List Label → Labels → Judged Labels
  labels_taken h [] found = Accepts found
  labels_taken h (l ∷ ls) found = when_accepted (labels_taken h ls) (label_taken h l found)

  -- those of arms, one arm after another
  abbrev pub arms_taken : Host → List (List Label) → Labels → Judged Labels
  arms_taken h [] found = Accepts found
  arms_taken h (ls ∷ more) found = when_accepted (arms_taken h more) (labels_taken h ls found)

  -- the ranges of one arm alone
  abbrev pub own_ranges : Host → List Label → Judged (Option (List CaseRange))
  own_ranges h ls = when_accepted ranges_formed (labels_taken h ls no_labels)

  -- the selector with the labels of all arms
  abbrev pub labelled : List (List Label) → CaseSelector → Judged CaseSelector
  labelled all s =
      when_accepted (λ found. Accepts (record s { form = if found.built then s.form else None }))
      (arms_taken s.host all no_labels)

  abbrev pub selector_judged : Expression → List (List Label) → Judged CaseSelector
  selector_judged e all = when_accepted (labelled all) (when_accepted (λ t. selecting t.kind t.form) (judged scopes e))
