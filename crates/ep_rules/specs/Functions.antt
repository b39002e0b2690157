-- The rules of calls of the required functions (ISO 10206, 6.7.6).
use Rattle.std.specs.Prelude.{ℕ, pos, suc, max, Bool, true, false, ◌==◌, ◌&&◌, ◌||◌, List, [], ◌∷◌, ◌++◌, length}
use Rattle.std.specs.Prelude.{Option, Some, None, if◌then◌else◌}
use Rattle.std.specs.Option.{option_map}
use Rattle.ep_typed.specs.Hosts.{least, greatest}
use Rattle.ep_typed.specs.Trees.{Card, Constant, Step}
use Rattle.ep_values.specs.declared.operations.Unary.{Unary}
use Rattle.ep_values.specs.declared.operations.Unary.TheVariants as unary
use Rattle.ep_scope.specs.declared.kind.Host.{Host}
use Rattle.ep_scope.specs.declared.kind.Kind.{Kind}
use Rattle.ep_scope.specs.declared.kind.Kind.TheVariants.{Ordinal, Structured, Set, EmptySet, Text, File}
use Rattle.ep_scope.specs.declared.required.Function.{Function}
use Rattle.ep_scope.specs.declared.required.Function.TheVariants as function
use Rattle.ep_scope.specs.declared.rule.TheConstants as rule
use Rattle.ep_rules.specs.Hosts.{typed_host}
use Rattle.ep_rules.specs.Judgements.{Judged, Accepts, Breaks, Typed, faults}
use Rattle.ep_rules.specs.declared.access.Access.TheVariants as access
use Rattle.ep_rules.specs.Operators.{integer, character, boolean, is_integer, unary_typed, within_depth, map_both}

-- an argument of a call
pub record Given : Type 0 where
  pub value : Judged Typed
  pub width : Option (Judged Typed)

-- the rules that fail in a width that may not be there
abbrev pub width_faults : Option (Judged Typed) → List ℕ
width_faults None = []
width_faults (Some width) = rule.WIDTH ∷ faults width

-- the rules that fail in an argument of a function, which has no width
abbrev pub given_faults : Given → List ℕ
given_faults g = faults g.value ++ width_faults g.width

-- the rules that fail in arguments
abbrev pub all_faults : List Given → List ℕ
all_faults [] = []
all_faults (g ∷ gs) = given_faults g ++ all_faults gs

-- the arguments that are accepted
abbrev pub accepted_first : Judged Typed → List Typed → List Typed
accepted_first (Accepts x) xs = x ∷ xs
accepted_first (Breaks rules) xs = xs

abbrev pub accepted : List Given → List Typed
accepted [] = []
accepted (g ∷ gs) = accepted_first g.value (accepted gs)

-- an argument of another type than the function needs
abbrev pub other_argument : Judged Typed
other_argument = Breaks (rule.REQUIRED_ARGUMENT ∷ [])

-- a function of an integer
abbrev pub of_integer : Unary → Kind → Typed → Judged Typed
of_integer operation kind x = if is_integer x.kind then unary_typed operation kind x else other_argument

-- `ord` of any ordinal value (ISO 10206, 6.7.6.4)
abbrev pub ordinal_by : Kind → Typed → Judged Typed
ordinal_by (Ordinal h) x = unary_typed unary.Same integer x
ordinal_by (Structured n) x = other_argument
ordinal_by (Set h) x = other_argument
ordinal_by EmptySet x = other_argument
ordinal_by Text x = other_argument
ordinal_by File x = other_argument

-- `succ` and `pred` of an ordinal value, within its host (ISO 10206, 6.7.6.4)
abbrev pub step_typed : Bool → Host → Typed → Typed → Judged Typed
step_typed down h x count =
    within_depth (map_both (Step down (least (typed_host h)) (greatest (typed_host h))) x.form count.form) (Ordinal h)
    (suc (max x.depth count.depth))

abbrev pub stepped_by : Kind → Bool → Typed → Typed → Judged Typed
stepped_by (Ordinal h) down x count = if is_integer count.kind then step_typed down h x count else other_argument
stepped_by (Structured n) down x count = other_argument
stepped_by (Set h) down x count = other_argument
stepped_by EmptySet down x count = other_argument
stepped_by Text down x count = other_argument
stepped_by File down x count = other_argument

abbrev pub stepped : Bool → Typed → Typed → Judged Typed
stepped down x count = stepped_by x.kind down x count

-- the count of `succ` and `pred` where none is given
abbrev pub one : Typed
one = record { form = Some (Constant (pos 1)); kind = integer; depth = 1; access = access.Value }

-- `card` of a set (ISO 10206, 6.7.6.8)
abbrev pub card_typed : Typed → Judged Typed
card_typed x = within_depth (option_map Card x.form) integer (suc x.depth)

abbrev pub card_by : Kind → Typed → Judged Typed
card_by (Set h) x = card_typed x
card_by EmptySet x = card_typed x
card_by (Ordinal h) x = other_argument
card_by (Structured n) x = other_argument
card_by Text x = other_argument
card_by File x = other_argument

-- a call of one argument
abbrev pub applied_one : Function → Typed → Judged Typed
applied_one function.Absolute = of_integer unary.Absolute integer
applied_one function.Square = of_integer unary.Square integer
applied_one function.Odd = of_integer unary.Odd boolean
applied_one function.Ordinal = λ x. ordinal_by x.kind x
applied_one function.Character = of_integer unary.Character character
applied_one function.Successor = λ x. stepped false x one
applied_one function.Predecessor = λ x. stepped true x one
applied_one function.Cardinality = λ x. card_by x.kind x

-- a call of two arguments, of a function that takes a count
abbrev pub applied_two : Function → Typed → Typed → Judged Typed
applied_two function.Successor = stepped false
applied_two function.Predecessor = stepped true
applied_two _ = λ x y. Breaks (rule.ARGUMENTS ∷ [])

abbrev pub takes_count : Function → Bool
takes_count function.Successor = true
takes_count function.Predecessor = true
takes_count _ = false

-- one argument, or the value and the count
abbrev pub takes : Function → ℕ → Bool
takes f n = n == 1 || (takes_count f && n == 2)

abbrev pub number_faults : Bool → List ℕ
number_faults true = []
number_faults false = rule.ARGUMENTS ∷ []

-- a call with arguments that are all accepted, and as many as there should be
abbrev pub called : Function → List Typed → Judged Typed
called f (x ∷ []) = applied_one f x
called f (x ∷ y ∷ []) = applied_two f x y
called f _ = Breaks (rule.ARGUMENTS ∷ [])

abbrev pub unless_faults : List ℕ → Judged Typed → Judged Typed
unless_faults [] judged = judged
unless_faults (r ∷ rs) judged = Breaks (r ∷ rs)

-- a call of a function: all rules that fail in its arguments and their number, or else that of their types
abbrev pub applied : Function → List Given → Judged Typed
applied f gs = unless_faults (all_faults gs ++ number_faults (takes f (length gs))) (called f (accepted gs))
