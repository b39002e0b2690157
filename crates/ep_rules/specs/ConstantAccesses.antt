-- What components of constants are, which are arrays or records (ISO 10206, 6.8.8).
use Rattle.std.specs.Prelude.{ℕ, ℤ, pos, Bool, List, Option, Some, None, if◌then◌else◌}
use Rattle.std.specs.List.{list_all, list_any}
use Rattle.std.specs.Option.{option_and_then, option_or}
use Rattle.std.specs.Str.{bytes_eq}
use Rattle.ep_typed.specs.Hosts.{is_of_host}
use Rattle.ep_typed.specs.CaseRanges.{is_in}
use Rattle.ep_typed.specs.Trees.{AtField, AtRanges, Constant, Elements, Expr, SameField, SetConstant, Structured}
use Rattle.ep_typed.specs.Trees.{no_element, next_element}
use Rattle.ep_typed.specs.declared.tree.CaseRange.{CaseRange}
use Rattle.ep_scope.specs.declared.kind.Host.{Host}
use Rattle.ep_scope.specs.declared.kind.Kind.{Kind}
use Rattle.ep_scope.specs.declared.kind.Kind.TheVariants as kind
use Rattle.ep_rules.specs.Folding.{number_in}
use Rattle.ep_rules.specs.Hosts.{typed_host}
use Rattle.ep_rules.specs.declared.folding.Folded.{Folded}
use Rattle.ep_rules.specs.declared.folding.Folded.TheVariants.{Known, Varies, Errs}

-- whether the index is in one of the ranges
abbrev pub has_index : List CaseRange → ℤ → Bool
has_index ranges z = list_any (λ r. is_in r z) ranges

-- ---- what is given

-- the value that the component of an array at this index is given by constant ranges: that of the last ones that have
-- it
abbrev pub value_at : Elements → ℤ → Option Expr
value_at no_element z = None
value_at (next_element (AtRanges ranges x) more) z =
    option_or (value_at more z) (if has_index ranges z then Some x else None)
value_at (next_element e more) z = value_at more z

-- the value that the component of a record is given to which these steps lead
abbrev pub value_of_field : Elements → List ℕ → Option Expr
value_of_field no_element steps = None
value_of_field (next_element (AtField own x) more) steps =
    if bytes_eq own steps then Some x else value_of_field more steps
value_of_field (next_element e more) steps = value_of_field more steps

-- alike, of one that is given it as one of several fields
abbrev pub value_for : Elements → Elements → List ℕ → Option Expr
value_for all no_element steps = None
value_for all (next_element (AtField own x) more) steps =
    if bytes_eq own steps then Some x else value_for all more steps
value_for all (next_element (SameField from to) more) steps =
    if bytes_eq to steps then value_of_field all from else value_for all more steps
value_for all (next_element e more) steps = value_for all more steps

-- ---- what it is as a constant

-- the members are values of the host
abbrev pub are_of_host : Host → List ℕ → Bool
are_of_host h ms = list_all (λ m. is_of_host (typed_host h) (pos m)) ms

-- a constant of this kind
abbrev pub constant_as : Kind → Expr → Option Expr
constant_as (kind.Ordinal h) (Constant z) = if is_of_host (typed_host h) z then Some (Constant z) else None
constant_as (kind.Set h) (SetConstant ms) = if are_of_host h ms then Some (SetConstant ms) else None
constant_as (kind.Structured n) (Structured of es) = Some (Structured of es)
constant_as k x = None

-- the component of this kind at an index that is constant
abbrev pub element_known : Kind → Elements → Folded → Option Expr
element_known k es (Known x) = option_and_then (constant_as k) (value_at es (number_in x))
element_known k es Varies = None
element_known k es Errs = None
