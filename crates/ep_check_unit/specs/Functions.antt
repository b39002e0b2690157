-- Functions: their results, and what gives these a value.
use Rattle.std.specs.Prelude.{ℕ, suc, Bool, true, false, ◌&&◌, ◌||◌, List, [], ◌∷◌, length, Option, Some, None}
use Rattle.std.specs.Prelude.{is_some, if◌then◌else◌}
use Rattle.ep_tree.specs.declared.statement.Compound.{Compound}
use Rattle.ep_typed.specs.Trees as tree
use Rattle.ep_typed.specs.Trees.{Stmts}
use Rattle.ep_typed.specs.declared.interface.RoutineResult.{RoutineResult}
use Rattle.ep_scope.specs.Scopes.{meant}
use Rattle.ep_scope.specs.declared.parameter.Protection.TheVariants as protection
use Rattle.ep_scope.specs.declared.rule.TheConstants as rule
use Rattle.ep_scope.specs.declared.thing.Declaration.TheVariants as declaration
use Rattle.ep_rules.specs.Judgements.{Judged, Accepts}
use Rattle.ep_threats.specs.Callees.{Callees, formals_at}
use Rattle.ep_stmt_rules.specs.Statements.{FunctionResult, Judgement, Passes, Waits, Fails}
use Rattle.ep_threats.specs.Threats.{inner_threatens, stmts_threaten}
use Rattle.ep_check_unit.specs.Blocks.{Block, RoutineForm, block_callees}
use Rattle.ep_check_unit.specs.Declarations.{Standing, Falls, entered, own_thing, scopes_of}
use Rattle.ep_unit_rules.specs.declared.own.Enclosing.{Enclosing}
use Rattle.ep_unit_rules.specs.declared.own.OwnResult.{OwnResult}
use Rattle.ep_unit_rules.specs.declared.functions.HeadingResult.{HeadingResult}
use Rattle.ep_unit_rules.specs.Functions.{has_unknown, in_block, is_that_function, text_gives}

-- ---- results in headings (ISO 10206, 6.7.2)

-- the name of its own that the result of a routine has, where there is one
abbrev pub result_own_name : Option RoutineResult → Option (List ℕ)
result_own_name None = None
result_own_name (Some r) = r.name

-- that of a routine in a list
abbrev pub own_name_at : Option RoutineForm → Option (List ℕ)
own_name_at None = None
own_name_at (Some r) = result_own_name r.result

-- ---- results in blocks

-- a name of its own stands for the variable that has the result
abbrev pub own_name_entered : OwnResult → Option (List ℕ) → Block → Judged Block
own_name_entered own None b = Accepts b
own_name_entered own (Some name) b =
    entered name (own_thing b own.variable (declaration.Own own.of.is own.kind protection.Unprotected)) b

abbrev pub result_entered : ℕ → ℕ → Option HeadingResult → Block → Judged Block
result_entered number variable None b = Accepts b
result_entered number variable (Some r) b = own_name_entered (in_block number variable r) r.name b

-- the function to whose name its block assigns, where the result has no name of its own (ISO 10206, 6.9.2.2), with so
-- many routines around its variables
abbrev pub assigned_function : ℕ → Option OwnResult → Option FunctionResult
assigned_function level None = None
assigned_function level (Some r) =
    if r.named then None
    else Some (record { function = r.function; level = level; variable = r.variable; kind = r.kind })

-- one before the others, where it is one
abbrev pub function_before : Option FunctionResult → List FunctionResult → List FunctionResult
function_before None others = others
function_before (Some r) others = r ∷ others

-- those in whose blocks code is, the innermost first
abbrev pub assigned_functions : List Enclosing → List FunctionResult
assigned_functions [] = []
assigned_functions (e ∷ es) = function_before (assigned_function (suc (length es)) e.result) (assigned_functions es)

-- ---- what gives a result (ISO 10206, 6.7.2)

-- the result has a name of its own
abbrev pub is_named : Option OwnResult → Bool
is_named None = false
is_named (Some r) = r.named

-- The text of the block gives the result by this name, in its own statements or in those of its parts. Of a procedure
-- nothing is asked, here and below.
abbrev pub is_assigned : Option OwnResult → List ℕ → Bool → Compound → Bool
is_assigned None name in_parts c = true
is_assigned (Some r) name in_parts c = text_gives r.named name c || in_parts

-- and the name means the function there
abbrev pub is_in_view : Option OwnResult → List ℕ → Block → Bool
is_in_view None name b = true
is_in_view (Some r) name b = r.named || is_that_function b.unit r.function (meant (scopes_of b) name)

-- The statements of the function, or those of a routine in it, threaten the variable that has the result (ISO 10206,
-- 6.9.4).
abbrev pub is_threatened : Option OwnResult → Callees → Stmts → Bool
is_threatened None callees ss = true
is_threatened (Some r) callees ss =
    stmts_threaten (formals_at callees) (tree.OfRoutine 0 r.variable) ss
    || inner_threatens r.function callees r.variable

-- A routine in the function waits: its statements, which may give the result, are not known.
abbrev pub is_open : Option OwnResult → List RoutineForm → Option ℕ → Bool
is_open None routines waits = false
is_open (Some r) routines waits = is_some waits && has_unknown r.function routines

-- Statements that break a rule, or wait for what is not built, count as those that do. So do all where a routine in
-- the function itself waits, since its statements may not be known; what waits elsewhere says nothing of the function.
abbrev pub row_gives : Block → Judgement Stmts → Bool
row_gives b (Passes ss) = is_open b.own.result b.routines b.waits || is_threatened b.own.result (block_callees b) ss
row_gives b (Waits line) = true
row_gives b (Fails line rules) = true

-- the result is given, or else a rule fails at the declaration on this line, before all that is inside
abbrev pub if_given : ℕ → Bool → Standing → Standing
if_given line true s = s
if_given line false s = Falls line (rule.NO_RESULT ∷ [])
