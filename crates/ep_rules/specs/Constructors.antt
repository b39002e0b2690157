-- The rules of set constructors (ISO 10206, 6.8.7.4): the values of all members are of one host.
use Rattle.std.specs.Prelude.{ℕ, suc, max, Bool, true, List, [], ◌∷◌, ◌++◌, Option, Some, None, if◌then◌else◌}
use Rattle.std.specs.Option.{option_map}
use Rattle.ep_typed.specs.Trees.{Designator, Range, SetOf, Single, designators}
use Rattle.ep_scope.specs.Kinds.{same_host}
use Rattle.ep_scope.specs.declared.kind.Host.{Host}
use Rattle.ep_scope.specs.declared.kind.Kind.{Kind}
use Rattle.ep_scope.specs.declared.kind.Kind.TheVariants as kind
use Rattle.ep_scope.specs.declared.rule.TheConstants as rule
use Rattle.ep_rules.specs.Judgements.{Judged, Accepts, Breaks, Typed, both, when_accepted}
use Rattle.ep_rules.specs.Operators.{are_compatible, map_both, within_depth}

-- a label: its first value, its last one where it is a range, and the name that it is alone, if it is one
pub record Label : Type 0 where
  pub low : Judged Typed
  pub high : Option (Judged Typed)
  pub name : Option (List ℕ)

-- What is gathered of member designators: the designators, where all are built, the host of their values, once there
-- is one, and how deep the deepest value is.
pub record Members : Type 0 where
  pub designators : Option (List Designator)
  pub host : Option Host
  pub depth : ℕ

-- of none
abbrev pub no_members : Members
no_members = record { designators = Some []; host = None; depth = 0 }

-- values of other types are no members beside those before them
abbrev pub no_member : Judged Members
no_member = Breaks (rule.OPERANDS ∷ [])

-- whether values of a host may stand beside those before them
abbrev pub may_join : Option Host → Host → Bool
may_join None h = true
may_join (Some g) h = same_host g h

-- with a designator of values of this host
abbrev pub extended : Members → Option Designator → ℕ → Host → Members
extended ms d depth h =
    record {
      designators = map_both (λ ds e. ds ++ e ∷ []) ms.designators d;
      host = Some h;
      depth = max ms.depth depth;
    }

-- with one of values of this kind, which is ordinal and has the same host as those before
abbrev pub joined_by : Kind → Members → Option Designator → ℕ → Judged Members
joined_by (kind.Ordinal h) ms d depth = if may_join ms.host h then Accepts (extended ms d depth h) else no_member
joined_by (kind.Structured n) ms d depth = no_member
joined_by (kind.Set h) ms d depth = no_member
joined_by kind.EmptySet ms d depth = no_member
joined_by kind.Text ms d depth = no_member
joined_by kind.File ms d depth = no_member

-- with one value
abbrev pub with_single : Members → Typed → Judged Members
with_single ms x = joined_by x.kind ms (option_map Single x.form) x.depth

-- with the values from one to another of the same host
abbrev pub with_range : Members → Typed → Typed → Judged Members
with_range ms x y =
    if are_compatible x.kind y.kind then joined_by x.kind ms (map_both Range x.form y.form) (max x.depth y.depth)
    else no_member

-- two values that are accepted
abbrev pub pair : Typed → Typed → Judged (Typed × Typed)
pair x y = Accepts (x, y)

abbrev pub with_pair : Members → Typed × Typed → Judged Members
with_pair ms p = with_range ms p.0 p.1

-- with a designator, of one value or of two
abbrev pub with_values : Judged Members → Judged Typed → Option (Judged Typed) → Judged Members
with_values ms low None = both with_single ms low
with_values ms low (Some high) = both with_pair ms (both pair low high)

abbrev pub with_label : Judged Members → Label → Judged Members
with_label ms l = with_values ms l.low l.high

-- with designators, from left to right
abbrev pub gathered : Judged Members → List Label → Judged Members
gathered ms [] = ms
gathered ms (l ∷ ls) = gathered (with_label ms l) ls

-- a set over the host of the members; that of none is of every set type
abbrev pub set_kind : Option Host → Kind
set_kind None = kind.EmptySet
set_kind (Some h) = kind.Set h

-- a set of these members
abbrev pub constructed : Members → Judged Typed
constructed ms =
    within_depth (option_map (λ ds. SetOf (designators ds)) ms.designators) (set_kind ms.host) (suc ms.depth)

-- a set constructor
abbrev pub set_judged : List Label → Judged Typed
set_judged ls = when_accepted constructed (gathered (Accepts no_members) ls)
