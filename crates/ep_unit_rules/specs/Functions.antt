-- Results of functions: in headings, and in blocks (ISO 10206, 6.7.2).
use Rattle.std.specs.Prelude.{ℕ, ◌==◌, Bool, true, false, ◌&&◌, List, Option, Some, None}
use Rattle.std.specs.Prelude.{is_some, if◌then◌else◌}
use Rattle.std.specs.List.{list_any}
use Rattle.std.specs.Str.{bytes_eq}
use Rattle.ep_tree.specs.declared.statement.Compound.{Compound}
use Rattle.ep_typed.specs.Trees as tree
use Rattle.ep_typed.specs.Trees.{Stmt}
use Rattle.ep_typed.specs.declared.interface.RoutineResult.{RoutineResult}
use Rattle.ep_scope.specs.Parameters.{same_type}
use Rattle.ep_scope.specs.Scopes.{Meant, Declares}
use Rattle.ep_scope.specs.declared.parameter.FormalParameter.{FormalParameter}
use Rattle.ep_scope.specs.declared.thing.Declaration.{Declaration}
use Rattle.ep_scope.specs.declared.thing.Declaration.TheVariants as declaration
use Rattle.ep_threats.specs.RoutineForms.{RoutineForm}
use Rattle.ep_threats.specs.Threats.{assigns}
use Rattle.ep_unit_rules.specs.Giving.{gives}
use Rattle.ep_unit_rules.specs.Numbers.{has_number}
use Rattle.ep_unit_rules.specs.Types.{type_denoter}
use Rattle.ep_unit_rules.specs.declared.own.OwnResult.{OwnResult}
use Rattle.ep_unit_rules.specs.declared.functions.HeadingResult.{HeadingResult}

-- the result of a typed routine
abbrev pub typed_result : Option HeadingResult → Option RoutineResult
typed_result None = None
typed_result (Some r) = Some (record { name = r.name; denoter = type_denoter r.of.name })

-- what the name of a routine with these formal parameters and this result stands for
abbrev pub routine_declaration : List FormalParameter → Option HeadingResult → Declaration
routine_declaration ps None = declaration.Procedure ps
routine_declaration ps (Some r) = declaration.Function ps r.of r.kind

-- both have no name of their own, or the same one
abbrev pub same_own_name : Option (List ℕ) → Option (List ℕ) → Bool
same_own_name None None = true
same_own_name (Some name) (Some other) = bytes_eq name other
same_own_name _ _ = false

-- a heading that is given again has the result of the first one, or none as the first one
abbrev pub same_result : Option HeadingResult → Option HeadingResult → Bool
same_result None None = true
same_result (Some r) (Some s) = same_own_name r.name s.name && same_type r.of.is s.of.is
same_result _ _ = false

-- the result of the function of this number in its block, by the number of the variable that has it
abbrev pub in_block : ℕ → ℕ → HeadingResult → OwnResult
in_block number variable r =
    record { function = number; variable = variable; of = r.of; kind = r.kind; named = is_some r.name }

abbrev pub own_result : ℕ → ℕ → Option HeadingResult → Option OwnResult
own_result number variable None = None
own_result number variable (Some r) = Some (in_block number variable r)

-- the name by which the text of a function with this name gives the result: that name, or the one of its own
abbrev pub own_or : List ℕ → Option (List ℕ) → List ℕ
own_or function None = function
own_or function (Some own) = own

abbrev pub result_name : List ℕ → Option HeadingResult → List ℕ
result_name function None = function
result_name function (Some r) = own_or function r.name

abbrev pub is_function : Declaration → Bool
is_function (declaration.Function ps of h) = true
is_function _ = false

-- the function of this number of a unit
abbrev pub is_that_function : List ℕ → ℕ → Meant → Bool
is_that_function unit number (Declares d) = is_function d.what && bytes_eq d.unit unit && d.number == number
is_that_function unit number _ = false

-- The text of statements gives a result by this name: they assign to it, where it is that of the function, and do so
-- to the variable with this name or give it elsewhere where it is one of its own.
abbrev pub text_gives : Bool → List ℕ → Compound → Bool
text_gives named name c = if named then gives name c else assigns name c

-- the statement that a routine has until its block is known
abbrev pub is_empty : Stmt → Bool
is_empty tree.Empty = true
is_empty _ = false

-- a routine in the one of this number, however deep, has no block that is known
abbrev pub has_unknown : ℕ → List RoutineForm → Bool
has_unknown number routines = list_any (λ r. has_number number r.around && is_empty r.block) routines
