-- The variables of a routine whose block is under way, by number.
use Rattle.std.specs.Prelude.{ℕ, ◌+◌, List, map, length, Option, Some, None}
use Rattle.ep_unit_rules.specs.declared.own.Enclosing.{Enclosing}
use Rattle.ep_unit_rules.specs.declared.own.OwnResult.{OwnResult}
use Rattle.ep_unit_rules.specs.declared.own.OwnVariables.{OwnVariables}

-- how many variables have the result: one in the block of a function
abbrev pub result_count : Option OwnResult → ℕ
result_count None = 0
result_count (Some r) = 1

-- the number of the first variable that the block of the routine declares which is under way
abbrev pub first_own : OwnVariables → ℕ
first_own own = length own.parameters + result_count own.result

-- how many variables the routine has so far, which is the number of the next one
abbrev pub own_count : OwnVariables → ℕ
own_count own = first_own own + length own.variables

-- the numbers of the routines whose blocks are under way, the innermost first
abbrev pub around_of : List Enclosing → List ℕ
around_of enclosing = map (λ e. e.number) enclosing
