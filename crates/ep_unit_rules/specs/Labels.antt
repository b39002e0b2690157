-- What the static rules say of the labels of variants (ISO 10206, 6.4.3.4).
--
-- A label is constant and a value of the tag's type (own), no value stands in two labels, and each value of the tag's
-- type stands in one, unless a variant without labels completes the others.
use Rattle.std.specs.Prelude.{ℤ, pos, ◌+ℤ◌, int_le, Bool, true, false, ◌&&◌, ◌||◌, not, List, [], ◌∷◌, ◌++◌, Option}
use Rattle.std.specs.Prelude.{Some, None, if◌then◌else◌}
use Rattle.std.specs.List.{list_all, list_any}
use Rattle.ep_tree.specs.declared.expression.Expression.{Expression}
use Rattle.ep_tree.specs.declared.expression.Label.{Label, out-Label}
use Rattle.ep_typed.specs.CaseRanges.{is_apart, is_in}
use Rattle.ep_values.specs.TypeValues.{TypeValue}
use Rattle.ep_values.specs.TypeValues as type
use Rattle.ep_typed.specs.declared.tree.CaseRange.{CaseRange}
use Rattle.ep_typed.specs.declared.value.Value.{Value}
use Rattle.ep_typed.specs.declared.value.Value.TheVariants as value
use Rattle.ep_scope.specs.Kinds.{same_host}
use Rattle.ep_scope.specs.Scopes.{Region}
use Rattle.ep_scope.specs.declared.kind.Host.{Host}
use Rattle.ep_scope.specs.declared.kind.Kind.{Kind}
use Rattle.ep_scope.specs.declared.kind.Kind.TheVariants as kind
use Rattle.ep_scope.specs.declared.rule.TheConstants as rule
use Rattle.ep_check_expr.specs.Constants.{constant_expression}
use Rattle.ep_rules.specs.Judgements.{Judged, Accepts, Breaks, when_accepted, both}
use Rattle.ep_unit_rules.specs.declared.labels.Labels.{Labels}
use Rattle.ep_unit_rules.specs.declared.labels.TagValues.{TagValues}

-- what labels break
abbrev pub mislabelled : {A : Type 0} → Judged A
mislabelled = Breaks (rule.VARIANT_LABELS ∷ [])

-- the values of an ordinal type, which is that of a tag or an index type, by its host
abbrev pub tag_values : Host → Option TypeValue → Judged TagValues
tag_values h (Some (type.Ordinal low high)) = Accepts (record { host = h; low = low; high = high })
tag_values h _ = Breaks (rule.ORDINAL ∷ [])

-- ---- one label

-- a value of the tag's type, where the label is built
abbrev pub valued : TagValues → ℤ → Bool → Judged (Option ℤ)
valued t z built =
    if not built then Accepts None else (if int_le t.low z && int_le z t.high then Accepts (Some z) else mislabelled)

-- an end of a label, by the constant that it is
abbrev pub fitting : TagValues → Kind → Value → Bool → Judged (Option ℤ)
fitting t (kind.Ordinal g) (value.Word z) built = if same_host t.host g then valued t z built else mislabelled
fitting t _ _ built = mislabelled

-- the values from one to another, which is not below it, where both are built
abbrev pub ranging : Option ℤ → Option ℤ → Judged (Option CaseRange)
ranging (Some low) (Some high) =
    if int_le low high then Accepts (Some (record { low = low; high = high })) else mislabelled
ranging _ _ = Accepts None

-- ---- labels one after another

-- no label yet
abbrev pub no_labels : Labels
no_labels = record { before = []; own = []; built = true }

-- whether no value of a range is in one of these
abbrev pub is_apart_from : CaseRange → List CaseRange → Bool
is_apart_from r ranges = list_all (λ s. is_apart s r) ranges

-- one label more of the variant that is under way, which has no value of those before it
abbrev pub added : Labels → Option CaseRange → Judged Labels
added found None = Accepts (record found { built = false })
added found (Some r) =
    if list_all (is_apart_from r) found.before && is_apart_from r found.own
    then Accepts (record found { own = found.own ++ r ∷ [] }) else mislabelled

-- the labels behind a variant
abbrev pub behind : Labels → Labels
behind found = record { before = found.before ++ found.own ∷ []; own = []; built = found.built }

-- whether a variant has a label, as the grammar says
abbrev pub has_label : List CaseRange → Bool
has_label [] = false
has_label (r ∷ rs) = true

-- the end of a variant: its ranges, and the labels behind it
abbrev pub variant_ended : Labels → Judged (List CaseRange × Labels)
variant_ended found = if has_label found.own || not found.built then Accepts (found.own, behind found) else mislabelled

module _ (scopes : List Region) (t : TagValues) where
  abbrev pub end_judged : Expression → Judged (Option ℤ)
  end_judged e = when_accepted (λ c. fitting t c.kind c.value c.built) (constant_expression scopes e)

  abbrev pub range_judged : Expression → Option Expression → Judged (Option CaseRange)
  range_judged low None = when_accepted (λ z. ranging z z) (end_judged low)
  range_judged low (Some high) = both ranging (end_judged low) (end_judged high)

  -- a label after others
  abbrev pub label_taken : Label → Labels → Judged Labels
  label_taken l found = when_accepted (added found) (range_judged (out-Label l).low (out-Label l).high)

  abbrev pub labels_taken : List Label → Labels → Judged Labels
  labels_taken [] found = Accepts found
  labels_taken (l ∷ ls) found = when_accepted (labels_taken ls) (label_taken l found)

  -- those of a variant after those of others
  abbrev pub variant_labelled : List Label → Labels → Judged (List CaseRange × Labels)
  variant_labelled ls found = when_accepted variant_ended (labels_taken ls found)

-- ---- all labels

-- whether a value has a label
abbrev pub is_labelled : List (List CaseRange) → ℤ → Bool
is_labelled all z = list_any (λ ranges. list_any (λ r. is_in r z) ranges) all

-- whether the value behind a label has one, where it is a value of the tag's type
abbrev pub goes_on : TagValues → List (List CaseRange) → CaseRange → Bool
goes_on t all r = int_le t.high r.high || is_labelled all (r.high +ℤ pos 1)

-- Each value of the tag's type has a label: the least one has, and so has the value behind each label that does not
-- end with the greatest one.
abbrev pub leave_none_out : TagValues → List (List CaseRange) → Bool
leave_none_out t all = is_labelled all t.low && list_all (λ ranges. list_all (goes_on t all) ranges) all

-- so it is, unless a variant completes the others; of labels that are not built it is not known yet
abbrev pub completed : TagValues → Labels → Bool → Judged (Unit {0})
completed t found completes =
    if completes || not found.built || leave_none_out t found.before then Accepts tt else mislabelled
