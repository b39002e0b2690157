-- Computations, which spend steps and change a state.
use Rattle.std.specs.Prelude.{ℕ, ℤ, pos, neg_ℤ, zero, suc, ◌+◌, ◌-◌, Bool, true, false, ◌&&◌, ◌||◌, not, nat_le, List}
use Rattle.std.specs.Prelude.{[], ◌∷◌, ◌++◌, Option, Some, None, length, slice_get, slice_set, drop, if◌then◌else◌}
use Rattle.std.specs.List.{list_any}
use Rattle.std.specs.Str.{bytes_eq}
use Rattle.ep_values.specs.Events.{Trace}
use Rattle.ep_values.specs.Operations.{maxint, last_char}
use Rattle.ep_typed.specs.declared.tree.Selection.{Selection}
use Rattle.ep_typed.specs.declared.tree.StandardFile.{StandardFile}
use Rattle.ep_typed.specs.declared.tree.StandardFile.TheVariants.{Input, Output}
use Rattle.ep_values.specs.Bounds.{component_at}
use Rattle.ep_values.specs.TypeValues.{TypeValue, Ordinal, Text, Array, component_type, is_within, size_of, same_type}
use Rattle.ep_values.specs.TypeValues.{parts_of, start_size}
use Rattle.ep_values.specs.TypeValues as type
pub use Rattle.ep_values.specs.Values.{Value, Undefined, Word, Components, Members}
use Rattle.ep_values.specs.Values.{start_of, value_along, value_with}

-- how a run ends
pub data End : Type 0 where
  Normal : End
  Halted : End
  Error : (number : ℕ) (unit : List ℕ) (line : ℕ) → End

-- a variable (ISO 10206, 6.5.1): the component of an allocation to which a path of numbers leads, and all of the
-- allocation
-- where the path is empty
pub record Component : Type 0 where
  pub allocation : ℕ
  pub path : List ℕ

abbrev pub whole : ℕ → Component
whole n = record { allocation = n; path = [] }

-- a component of a variable, by its number
abbrev pub component : Component → ℕ → Component
component c k = record c { path = c.path ++ k ∷ [] }

-- the tag of a record with a variant part: the one component of the record in front of the variants
abbrev pub tag_of : Component → Selection → Component
tag_of c s = component (component c s.tag) 0

-- whether two numbers are the same
abbrev pub is_number : ℕ → ℕ → Bool
is_number j k = nat_le j k && nat_le k j

-- an allocation: a variable that a declaration makes, or a standard file. They are numbered from 1 in the order of
-- their making, and `input` and `output` are the first two. One that has ended keeps its number.
pub record Allocation : Type 0 where
  pub type_value : TypeValue
  pub value : Value
  pub ended : Bool

-- What is counted of resources: the distinct type values that were elaborated, the words of allocations with one more
-- for each, what is set aside for activations, `for` and structured values under way, the words of type values, and
-- whether they have passed what every run has.
pub record Resources : Type 0 where
  pub types : List TypeValue
  pub allocated : ℕ
  pub reserved : ℕ
  pub typed : ℕ
  pub lost : Bool

-- what is given back when it ends; the words of type values never are
abbrev pub held : Resources → ℕ
held r = r.allocated + r.reserved

-- the variables of an activation (ISO 10206, 6.2.3.2): what each variable of the routine is, once it is made
abbrev pub Variables : Type 0
Variables = ℕ → Option Component

-- A call under way: the name of its routine, and the unit and the line of the statement or declaration that made it;
-- and
-- its activation: its variables, those of the activations around it, in which its routine and the ones around that are
-- declared, the innermost first, and the allocations that were made in it, in order. While it is under way nothing is
-- made
-- in the activations around it.
pub record Call : Type 0 where
  pub routine : List ℕ
  pub unit : List ℕ
  pub line : ℕ
  pub variables : Variables
  pub around : List Variables
  pub made : List ℕ

-- the state of a run
pub record State : Type 0 where
  pub allocations : List Allocation
  -- what each variable of each unit is, by the unit's name, once it is made
  pub variables : List ℕ → ℕ → Option Component
  -- the calls under way, the innermost first
  pub calls : List Call
  pub resources : Resources
  pub trace : Trace

-- what a computation comes to: a value or an end, with the steps that are left, or too few steps were left
pub data Outcome (A : Type 0) : Type 0 where
  Gives : (left : ℕ) (a : A) (state : State) → Outcome A
  Ends : (left : ℕ) (end : End) (state : State) → Outcome A
  Cut : (state : State) → Outcome A

abbrev pub state_of : {A : Type 0} → Outcome A → State
state_of (Gives left a s) = s
state_of (Ends left e s) = s
state_of (Cut s) = s

-- from the steps that may be spent and the state
abbrev pub Computation : Type 0 → Type 0
Computation A = ℕ → State → Outcome A

abbrev pub give : {A : Type 0} → A → Computation A
give a m s = Gives m a s

-- no more steps
abbrev pub cut : {A : Type 0} → Computation A
cut m s = Cut s

abbrev pub stop : {A : Type 0} → End → Computation A
stop e m s = Ends m e s

abbrev pub go_on : {A B : Type 0} → Outcome A → (A → Computation B) → Outcome B
go_on (Gives left a s) f = f a left s
go_on (Ends left e s) f = Ends left e s
go_on (Cut s) f = Cut s

-- one computation, and then another one that may use what the first gave
abbrev pub bind : {A B : Type 0} → Computation A → (A → Computation B) → Computation B
bind c f m s = go_on (c m s) f

-- the same, as it is written between the two
infixl 10 ◌>>=◌
abbrev pub ◌>>=◌ : {A B : Type 0} → Computation A → (A → Computation B) → Computation B
c >>= f = bind c f

-- so many steps, and then the rest
abbrev pub spend : {A : Type 0} → ℕ → Computation A → Computation A
spend zero c m s = c m s
spend (suc k) c zero s = Cut s
spend (suc k) c (suc m) s = spend k c m s

-- a change of the state
abbrev pub change : (State → State) → Computation (Unit {0})
change f m s = Gives m tt (f s)

-- what is read of the state, or an end where there is nothing
abbrev pub found : {A : Type 0} → End → Option A → Computation A
found e None = stop e
found e (Some a) = give a

abbrev pub fetch : {A : Type 0} → End → (State → Option A) → Computation A
fetch e f m s = found e (f s) m s

-- the same with an end that depends on the state
abbrev pub fetch_or : {A : Type 0} → (State → End) → (State → Option A) → Computation A
fetch_or e f m s = found (e s) (f s) m s

-- ---- what the primitives do to the state
-- the events of one more piece; an empty piece is none
abbrev pub with_events : Trace → State → State
with_events events s = record s { trace = s.trace ++ events }

-- the allocation of this number, of which `input` has 1
abbrev pub allocation_at : List Allocation → ℕ → Option Allocation
allocation_at allocations zero = None
allocation_at allocations (suc n) = slice_get allocations n

abbrev pub ended_in : Option Allocation → Bool
ended_in None = false
ended_in (Some a) = a.ended

-- whether the allocation of this number has ended
abbrev pub has_ended : ℕ → State → Bool
has_ended n s = ended_in (allocation_at s.allocations n)

-- what uses an allocation, or an end where that has ended
abbrev pub using : {A : Type 0} → End → ℕ → Computation A → Computation A
using e n c m s = (if has_ended n s then stop e else c) m s

-- the value at a path of an allocation
abbrev pub value_in : Option Allocation → List ℕ → Value
value_in None path = Undefined
value_in (Some a) path = value_along a.value path

-- the value of a variable
abbrev pub value_at : Component → State → Value
value_at c s = value_in (allocation_at s.allocations c.allocation) c.path

abbrev pub changed_at : ℕ → List ℕ → Value → List Allocation → Option Allocation → List Allocation
changed_at n path value allocations None = allocations
changed_at n path value allocations (Some a) =
    slice_set allocations n (record a { value = value_with a.value path value })

abbrev pub assigned_at : ℕ → List ℕ → Value → List Allocation → List Allocation
assigned_at zero path value allocations = allocations
assigned_at (suc n) path value allocations = changed_at n path value allocations (slice_get allocations n)

-- the variable has the value
abbrev pub assigned : Component → Value → State → State
assigned c value s = record s { allocations = assigned_at c.allocation c.path value s.allocations }

-- the type at a path
abbrev pub type_along : Option TypeValue → List ℕ → Option TypeValue
type_along t [] = t
type_along None (k ∷ path) = None
type_along (Some t) (k ∷ path) = type_along (component_type t k) path

-- the type of an allocation
abbrev pub type_in : Option Allocation → Option TypeValue
type_in None = None
type_in (Some a) = Some a.type_value

-- the type of a variable
abbrev pub type_at : Component → State → Option TypeValue
type_at c s = type_along (type_in (allocation_at s.allocations c.allocation)) c.path

-- the number of the component with this index, where the type is an array and the index is within its bounds
abbrev pub number_at : TypeValue → ℤ → Option ℕ
number_at (Ordinal low high) z = None
number_at Text z = None
number_at (Array low high of) z = component_at low high z
number_at (type.Record ts) z = None
number_at (type.Set low high) z = None
number_at (type.Initial of start) z = number_at of z

-- what has no type has no components
abbrev pub component_number : Option TypeValue → ℤ → Option ℕ
component_number None z = None
component_number (Some t) z = number_at t z

-- what has no type has no values
abbrev pub is_among : Option TypeValue → ℤ → Bool
is_among None w = false
is_among (Some t) w = is_within t w

-- every run has room for so many words and types
abbrev pub room_for_words : ℕ
room_for_words = 4194304

abbrev pub room_for_types : ℕ
room_for_types = 262000

abbrev pub has_room : Resources → Bool
has_room r = nat_le (held r + r.typed) room_for_words && nat_le (length r.types) room_for_types

-- room that was lost stays lost
abbrev pub watched : Resources → Resources
watched r = record r { lost = r.lost || not (has_room r) }

-- the types that are there before any is elaborated: integer, char, Boolean and text
abbrev pub first_types : List TypeValue
first_types =
    Ordinal (neg_ℤ (pos maxint)) (pos maxint) ∷ Ordinal (pos 0) (pos last_char) ∷ Ordinal (pos 0) (pos 1) ∷ Text ∷ []

-- the words of a new type value, with those of its initial state; the first types have none
abbrev pub words_of_type : TypeValue → ℕ
words_of_type t = if list_any (same_type t) first_types then 0 else 1 + parts_of t + start_size t

-- room is lost where a type has more words than every run has
abbrev pub sized : TypeValue → Resources → Resources
sized t r = record r { lost = r.lost || not (nat_le (size_of t) room_for_words) }

-- one more type that is elaborated, which counts where it is a new one
abbrev pub met : TypeValue → Resources → Resources
met t r =
    sized t (watched
    (if list_any (same_type t) r.types then r else record r {
      types = t ∷ r.types;
      typed = r.typed + words_of_type t;
    }))

abbrev pub with_type : TypeValue → State → State
with_type t s = record s { resources = met t s.resources }

-- so many more words are allocated
abbrev pub taken : ℕ → Resources → Resources
taken n r = watched (record r { allocated = r.allocated + n })

-- the variable of this number of the unit is this one
abbrev pub bound : List ℕ → ℕ → Component → (List ℕ → ℕ → Option Component) → List ℕ → ℕ → Option Component
bound unit number c variables u k =
    if bytes_eq unit u && (nat_le number k && nat_le k number) then Some c else variables u k

-- a variable of a unit is one that there is
abbrev pub with_bound : List ℕ → ℕ → Component → State → State
with_bound unit number c s = record s { variables = bound unit number c s.variables }

-- the words of a variable of a type, and one more, are counted
abbrev pub counted : TypeValue → State → State
counted t s = record s { resources = taken (size_of t + 1) s.resources }

-- a new variable, in the initial state of its type, once its words are counted: an allocation of the type
abbrev pub made : List ℕ → ℕ → TypeValue → State → State
made unit number t s =
    record s {
      allocations = s.allocations ++ record { type_value = t; value = start_of t; ended = false } ∷ [];
      variables = bound unit number (whole (suc (length s.allocations))) s.variables;
    }

-- the variables of the activation that runs and of those around it, the innermost first
abbrev pub named_in : List Call → List Variables
named_in [] = []
named_in (c ∷ calls) = c.variables ∷ c.around

abbrev pub variable_in : Option Variables → ℕ → Option Component
variable_in None k = None
variable_in (Some variables) k = variables k

-- what a variable is of the routine so many levels up from the one that runs
abbrev pub own_in : List Call → ℕ → ℕ → Option Component
own_in calls levels k = variable_in (slice_get (named_in calls) levels) k

abbrev pub own_variable : ℕ → ℕ → State → Option Component
own_variable levels k s = own_in s.calls levels k

-- The variables that an activation has around it: none where its routine is one of the unit, and else those of the
-- activation so many levels less one up from the one that runs, in which its routine is declared, and of those around
-- that.
abbrev pub around_by : ℕ → List Call → List Variables
around_by zero calls = []
around_by (suc up) calls = drop up (named_in calls)

-- the variable of this number of a routine is this one
abbrev pub bound_own : ℕ → Component → Variables → Variables
bound_own number c variables k = if nat_le number k && nat_le k number then Some c else variables k

-- it was made in the innermost call
abbrev pub with_own : ℕ → ℕ → List Call → List Call
with_own number n [] = []
with_own number n (c ∷ calls) =
    record c { variables = bound_own number (whole n) c.variables; made = c.made ++ n ∷ [] } ∷ calls

-- a new variable of the routine that runs, in the initial state of its type, once its words are counted
abbrev pub made_own : ℕ → TypeValue → State → State
made_own number t s =
    record s {
      allocations = s.allocations ++ record { type_value = t; value = start_of t; ended = false } ∷ [];
      calls = with_own number (suc (length s.allocations)) s.calls;
    }

-- the newest allocation has the value
abbrev pub newest_assigned : Value → State → State
newest_assigned value s = assigned (whole (length s.allocations)) value s

-- a variable of the routine that runs is one that there is
abbrev pub own_bound_in : ℕ → Component → List Call → List Call
own_bound_in number bound [] = []
own_bound_in number bound (c ∷ calls) = record c { variables = bound_own number bound c.variables } ∷ calls

abbrev pub with_own_bound : ℕ → Component → State → State
with_own_bound number bound s = record s { calls = own_bound_in number bound s.calls }

-- A variable is made: its words are counted, and then it is there, which spends its size. So room is lost before the
-- steps that it is wanted for.
abbrev pub allocate : List ℕ → ℕ → TypeValue → Computation (Unit {0})
allocate unit number t = change (counted t) >>= λ _. spend (size_of t) (change (made unit number t))

-- a variable of the routine that runs is made alike
abbrev pub allocate_own : ℕ → TypeValue → Computation (Unit {0})
allocate_own number t = change (counted t) >>= λ _. spend (size_of t) (change (made_own number t))

-- ---- what ends
abbrev pub ended_at : ℕ → List Allocation → Option Allocation → List Allocation
ended_at n allocations None = allocations
ended_at n allocations (Some a) = slice_set allocations n (record a { ended = true })

-- the allocation of this number has ended
abbrev pub with_ended : ℕ → List Allocation → List Allocation
with_ended zero allocations = allocations
with_ended (suc n) allocations = ended_at n allocations (slice_get allocations n)

-- those of these numbers have
abbrev pub all_ended : List ℕ → List Allocation → List Allocation
all_ended [] allocations = allocations
all_ended (n ∷ ns) allocations = all_ended ns (with_ended n allocations)

-- the words of an allocation that lives, and one more
abbrev pub living_words : Option Allocation → ℕ
living_words None = 0
living_words (Some a) = if a.ended then 0 else size_of a.type_value + 1

-- the words that end with these allocations
abbrev pub words_ending : List ℕ → List Allocation → ℕ
words_ending [] allocations = 0
words_ending (n ∷ ns) allocations =
    living_words (allocation_at allocations n) + words_ending ns (with_ended n allocations)

-- these allocations end, and their words are given back
abbrev pub with_all_ended : List ℕ → State → State
with_all_ended ns s =
    record s {
      allocations = all_ended ns s.allocations;
      resources = record s.resources { allocated = s.resources.allocated - words_ending ns s.allocations };
    }

-- the allocation of a standard file
abbrev pub standard_file : StandardFile → ℕ
standard_file Input = 1
standard_file Output = 2

abbrev pub standard_allocation : Allocation
standard_allocation = record { type_value = Text; value = Undefined; ended = false }

-- the state before the first unit is started: `input` and `output` are there
abbrev pub first_state : State
first_state =
    record {
      allocations = standard_allocation ∷ standard_allocation ∷ [];
      variables = λ unit number. None;
      calls = [];
      resources = record { types = []; allocated = 4; reserved = 0; typed = 0; lost = false };
      trace = [];
    }
