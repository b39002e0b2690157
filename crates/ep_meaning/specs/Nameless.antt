-- Variables without a name, in which structured values are made (ISO 10206, 6.8.7.1).
use Rattle.std.specs.Prelude.{ℕ, zero, suc, ◌+◌, ◌*◌, List, [], ◌∷◌, ◌++◌, Option, Some, None, false, length}
use Rattle.ep_values.specs.Bounds.{count_of}
use Rattle.ep_meaning.specs.Calls.{nested}
use Rattle.ep_values.specs.Printing.{Result}
use Rattle.ep_meaning.specs.Results.{result_of, value_of, weight_of}
use Rattle.ep_meaning.specs.Steps.{Component, End, State, Gives, Computation, assigned, ◌>>=◌, change, component}
use Rattle.ep_meaning.specs.Steps.{component_number, counted, fetch, give, spend, type_at, using, whole}
use Rattle.ep_meaning.specs.Steps.{with_all_ended}
use Rattle.ep_values.specs.Values.{Value, start_of}
use Rattle.ep_values.specs.TypeValues.{size_of}
use Rattle.ep_values.specs.TypeValues.{TypeValue}
use Rattle.ep_typed.specs.declared.tree.CaseRange.{CaseRange}

-- one more allocation of the type, in its initial state
abbrev pub made_nameless : TypeValue → State → State
made_nameless t s =
    record s { allocations = s.allocations ++ record { type_value = t; value = start_of t; ended = false } ∷ [] }

-- It is made, and this is its number.
abbrev pub newest_nameless : TypeValue → Computation ℕ
newest_nameless t m s = Gives m (suc (length s.allocations)) (made_nameless t s)

-- A structured value is begun: its words are counted, as those of any variable, then the step of its node is spent
-- with its
-- weight and its size, and then it is there.
abbrev pub begins_nameless : TypeValue → Computation ℕ
begins_nameless t = change (counted t) >>= λ _. spend (suc (size_of t + size_of t)) (newest_nameless t)

-- whether more calls are under way than every run has room for
abbrev pub with_depth : State → State
with_depth s = record s { resources = nested (length s.calls) s.resources }

-- Its value is taken, and it ends, which gives back its words.
abbrev pub taken_and_ended : ℕ → Result → Computation Result
taken_and_ended n r = change with_depth >>= λ _. change (with_all_ended (n ∷ [])) >>= λ _. give r

abbrev pub takes_nameless : End → End → ℕ → Computation Result
takes_nameless ended undefined n = using ended n (fetch undefined (result_of (whole n)) >>= taken_and_ended n)

-- ---- one value for many components of an array (ISO 10206, 6.8.7.2)

-- so many components of a variable, from the one with this number on, have the value
abbrev pub all_assigned : Component → ℕ → ℕ → Value → State → State
all_assigned c k zero value s = s
all_assigned c k (suc n) value s = all_assigned c (suc k) n value (assigned (component c k) value s)

-- the same from one that there is
abbrev pub assigned_from : Component → Option ℕ → ℕ → Value → State → State
assigned_from c None n value s = s
assigned_from c (Some k) n value s = all_assigned c k n value s

-- how many indexes a range has
abbrev pub range_count : CaseRange → ℕ
range_count r = count_of r.low r.high

-- the components with the indexes of a range have the value
abbrev pub range_assigned : Component → CaseRange → Value → State → State
range_assigned c r value s = assigned_from c (component_number (type_at c s) r.low) (range_count r) value s

-- The components of a structured value under way with the indexes of a range get the value that one of them has got.
-- That spends
-- a step, and for each component one more and what the value weighs, all of them before it is done.
abbrev pub fills : Component → Result → CaseRange → Computation (Unit {0})
fills c r range =
    change with_depth
    >>= λ _. spend (suc (range_count range * suc (weight_of r))) (change (range_assigned c range (value_of r)))

-- those with the indexes of ranges, in order
abbrev pub fills_all : Component → Result → List CaseRange → Computation (Unit {0})
fills_all c r [] = give tt
fills_all c r (range ∷ more) = fills c r range >>= λ _. fills_all c r more
