-- What the static rules say of routines, and of all parts of a block (ISO 10206, 6.2.1 and 6.7). The declaration of a
-- routine without its block is an item, on the line of the word `procedure` or `function`.
use Rattle.std.specs.List.{list_any}
use Rattle.std.specs.Prelude.{ℕ, ◌+◌, suc, Bool, true, false, not, ◌||◌, List, [], ◌∷◌, ◌++◌, map, length, slice_get}
use Rattle.std.specs.Prelude.{Option, Some, None, is_none, if◌then◌else◌}
use Rattle.std.specs.Str.{bytes_eq}
use Rattle.ep_tree.specs.declared.declaration.FormalSection.{FormalSection}
use Rattle.ep_tree.specs.declared.declaration.FormalType.{FormalType}
use Rattle.ep_tree.specs.declared.declaration.FormalType.TheVariants as formal_type
use Rattle.ep_tree.specs.declared.declaration.RoutineHeading.{RoutineHeading}
use Rattle.ep_tree.specs.declared.declaration.RoutineHeading.TheVariants as heading
use Rattle.ep_tree.specs.declared.routine.BlockPart.TheOpen.{BlockPart-F, Routine-F, RoutineBody-F}
use Rattle.ep_tree.specs.declared.routine.BlockPart.{BlockPart, fold-BlockPart}
use Rattle.ep_tree.specs.declared.routine.Routine.{Routine, fold-Routine}
use Rattle.ep_tree.specs.declared.routine.RoutineBody.{RoutineBody, fold-RoutineBody}
use Rattle.ep_tree.specs.declared.routine.RoutineStart.{RoutineStart}
use Rattle.ep_tree.specs.declared.routine.RoutineStart.TheVariants as start
use Rattle.ep_tree.specs.declared.statement.Compound.{Compound}
use Rattle.ep_typed.specs.Trees as tree
use Rattle.ep_typed.specs.Trees.{Stmt, Stmts}
use Rattle.ep_typed.specs.declared.unit.UnitVariable.{UnitVariable}
use Rattle.ep_scope.specs.Parameters.{protection_of}
use Rattle.ep_scope.specs.Required.{look_up}
use Rattle.ep_scope.specs.Scopes.{Region, opened, closed}
use Rattle.ep_scope.specs.declared.parameter.FormalParameter.{FormalParameter}
use Rattle.ep_scope.specs.declared.rule.TheConstants as rule
use Rattle.ep_scope.specs.declared.thing.Declaration.{Declaration}
use Rattle.ep_scope.specs.declared.thing.Declaration.TheVariants as declaration
use Rattle.ep_scope.specs.declared.thing.Thing.{Thing}
use Rattle.ep_scope.specs.declared.thing.Thing.TheVariants as thing
use Rattle.ep_rules.specs.Judgements.{Judged, Accepts, Breaks, unbuilt, when_accepted}
use Rattle.ep_stmt_rules.specs.Auxiliaries.{has_for, has_for_in}
use Rattle.ep_stmt_rules.specs.Statements.{Context, Locals, OfUnit, OfRoutine, Judgement, Passes, Waits, Fails}
use Rattle.ep_stmt_rules.specs.Statements.{compound_judged}
use Rattle.ep_stmt_rules.specs.Tags.{assigns_tag}
use Rattle.ep_unit_rules.specs.Own.{around_of, first_own, own_count}
use Rattle.ep_threats.specs.RoutineForms.{block_set}
use Rattle.ep_check_unit.specs.Blocks.{Block, RoutineForm, block_callees}
use Rattle.ep_unit_rules.specs.Numbers.{has_number}
use Rattle.ep_unit_rules.specs.declared.own.Enclosing.{Enclosing}
use Rattle.ep_unit_rules.specs.declared.own.OwnVariables.{OwnVariables}
use Rattle.ep_tree.specs.declared.operator.QualifiedName.{QualifiedName}
use Rattle.ep_check_unit.specs.Declarations.{Written, Standing, Stands, Falls, all_variables_declared, and_then}
use Rattle.ep_check_unit.specs.Declarations.{at_line, constants_declared, entered, misnamed, noted, own_thing}
use Rattle.ep_check_unit.specs.Declarations.{scopes_of, type_definitions, type_named, written_type}
use Rattle.ep_check_unit.specs.Functions.{assigned_functions, if_given, is_assigned, is_in_view, is_named}
use Rattle.ep_unit_rules.specs.Functions.{result_name, routine_declaration, text_gives}
use Rattle.ep_check_unit.specs.Functions.{own_name_at, result_entered}
use Rattle.ep_unit_rules.specs.Functions.{same_result, typed_result}
use Rattle.ep_check_unit.specs.Functions.{row_gives}
use Rattle.ep_unit_rules.specs.declared.functions.HeadingResult.{HeadingResult}
use Rattle.ep_unit_rules.specs.Formals.{section_mode, is_parameter, parameters_added, formal_of, is_repeated}
use Rattle.ep_unit_rules.specs.Headings.{start_name, own_variables}

-- ---- formal parameters (ISO 10206, 6.7.3)

-- In a list of parameters the name of the routine and those of the parameters before hide what they mean outside; none
-- of them is a type or has a constituent.
abbrev pub hidden_type : Option (List ℕ) → Judged Written
hidden_type None = misnamed
hidden_type (Some name) = Breaks (rule.UNDECLARED ∷ [])

abbrev pub parameter_type : List ℕ → List FormalParameter → List ℕ → Option (List ℕ) → Block → Judged Written
parameter_type routine before first second b =
    if bytes_eq routine first || is_parameter first before then hidden_type second else type_named first second b

-- the type of a section; the type of a variable is not built
abbrev pub section_type : List ℕ → List FormalParameter → FormalType → Block → Judged Written
section_type routine before (formal_type.Named name) b = parameter_type routine before name.first name.second b
section_type routine before (formal_type.TypeOf line name) b = unbuilt

abbrev pub section_judged : List ℕ → ℕ → FormalSection → Block → List FormalParameter → Judged (List FormalParameter)
section_judged routine section s b before =
    when_accepted
    (λ w. parameters_added (section_mode s.protected s.variable) section (written_type w) w.kind s.names before)
    (section_type routine before s.of b)

-- all sections from this number on
abbrev pub sections_judged : List ℕ → ℕ → List FormalSection → Block → List FormalParameter
    → Judged (List FormalParameter)
sections_judged routine section [] b before = Accepts before
sections_judged routine section (s ∷ ss) b before =
    when_accepted (sections_judged routine (suc section) ss b) (section_judged routine section s b before)

-- ---- headings (ISO 10206, 6.7.1 and 6.7.2)

-- a routine with these formal parameters and this result, in the blocks of these, which has no block so far and does
-- nothing
abbrev pub headed_form : List ℕ → ℕ → List FormalParameter → Option HeadingResult → List Enclosing → RoutineForm
headed_form name line ps r enclosing =
    record {
      name = name;
      line = line;
      formals = map formal_of ps;
      result = typed_result r;
      variables = [];
      around = around_of enclosing;
      block = tree.Empty;
    }

-- one more
abbrev pub with_routine : List ℕ → ℕ → List FormalParameter → Option HeadingResult → Block → Block
with_routine name line ps r b = record b { routines = b.routines ++ headed_form name line ps r b.own.enclosing ∷ [] }

-- a routine that is declared: its number, its formal parameters and its result, and what has been declared with it
pub record Headed : Type 0 where
  pub number : ℕ
  pub parameters : List FormalParameter
  pub result : Option HeadingResult
  pub block : Block

-- Its first declaration. The name is there before the block of the routine is, so the routine may call itself.
abbrev pub headed_first : List ℕ → ℕ → List FormalParameter → Option HeadingResult → Block → Judged Headed
headed_first name line ps r b =
    when_accepted (λ c. Accepts (record { number = length b.routines; parameters = ps; result = r; block = c }))
    (entered name (own_thing b (length b.routines) (routine_declaration ps r)) (with_routine name line ps r b))

-- The routine that is declared under a name already; a name that stands for something else is declared twice. Only its
-- first heading says which name of its own the result of a function has.
abbrev pub declared_routine : ℕ → Declaration → Block → Judged Headed
declared_routine number (declaration.Procedure ps) b =
    Accepts (record { number = number; parameters = ps; result = None; block = b })
declared_routine number (declaration.Function ps of k) b =
    Accepts (record {
      number = number;
      parameters = ps;
      result = Some (record
          { name = own_name_at (slice_get b.routines number); of = of; kind = k });
      block = b;
    })
declared_routine number (declaration.Constant k v deep) b = Breaks (rule.TWICE ∷ [])
declared_routine number (declaration.«Type» of h nodes) b = Breaks (rule.TWICE ∷ [])
declared_routine number (declaration.Variable of k guarded) b = Breaks (rule.TWICE ∷ [])
declared_routine number (declaration.Own of k guarded) b = Breaks (rule.TWICE ∷ [])

abbrev pub routine_there : Thing → Block → Judged Headed
routine_there (thing.Declared d) b = declared_routine d.number d.what b
routine_there (thing.Standard file) b = Breaks (rule.TWICE ∷ [])

-- whether the routine of this number has a body
abbrev pub has_body : ℕ → Block → Bool
has_body number b = has_number number b.bodies

-- another declaration of a routine is its body, where it has none yet
abbrev pub headed_again : Bool → List FormalParameter → Option HeadingResult → Headed → Judged Headed
headed_again is_forward ps r h =
    if is_forward || has_body h.number h.block || not (is_repeated ps h.parameters) || not (same_result r h.result)
    then Breaks (rule.REPEATED_HEADING ∷ []) else Accepts h

-- a declaration by what its name stands for in the scope
abbrev pub headed_over : Bool → List ℕ → ℕ → Option Thing → Block → Option HeadingResult → List FormalParameter
    → Judged Headed
headed_over is_forward name line None b r ps = headed_first name line ps r b
headed_over is_forward name line (Some t) b r ps = when_accepted (headed_again is_forward ps r) (routine_there t b)

abbrev pub procedure_headed : Bool → ℕ → List ℕ → List FormalSection → Block → Judged Headed
procedure_headed is_forward line name sections b =
    when_accepted (headed_over is_forward name line (look_up b.scopes.inner.entries name) b None)
    (sections_judged name 0 sections b [])

-- the result of a function; in the heading the function's name hides what it means outside
abbrev pub result_judged : List ℕ → Option (List ℕ) → QualifiedName → Block → Judged HeadingResult
result_judged function own of b =
    when_accepted (λ w. Accepts (record { name = own; of = written_type w; kind = w.kind }))
    (parameter_type function [] of.first of.second b)

-- a function by its formal parameters
abbrev pub result_headed : Bool → ℕ → List ℕ → Option (List ℕ) → QualifiedName → Block → List FormalParameter
    → Judged Headed
result_headed is_forward line name own of b ps =
    when_accepted (λ r. headed_over is_forward name line (look_up b.scopes.inner.entries name) b (Some r) ps)
    (result_judged name own of b)

abbrev pub function_headed : Bool → ℕ → List ℕ → List FormalSection → Option (List ℕ) → QualifiedName → Block
    → Judged Headed
function_headed is_forward line name sections own of b =
    when_accepted (result_headed is_forward line name own of b) (sections_judged name 0 sections b [])

-- the name alone is a function's body, where it has none yet
abbrev pub identified_again : Bool → Headed → Judged Headed
identified_again is_forward h =
    if is_forward || has_body h.number h.block || is_none h.result then Breaks (rule.REPEATED_HEADING ∷ [])
    else Accepts h

abbrev pub identified_over : Bool → Option Thing → Block → Judged Headed
identified_over is_forward None b = Breaks (rule.UNDECLARED ∷ [])
identified_over is_forward (Some t) b = when_accepted (identified_again is_forward) (routine_there t b)

abbrev pub function_identified : Bool → List ℕ → Block → Judged Headed
function_identified is_forward name b = identified_over is_forward (look_up b.scopes.inner.entries name) b

abbrev pub heading_headed : Bool → ℕ → RoutineHeading → Block → Judged Headed
heading_headed is_forward line (heading.Procedure at name sections) b =
    procedure_headed is_forward line name sections b
heading_headed is_forward line (heading.Function at name sections own of) b =
    function_headed is_forward line name sections own of b

-- a routine by the start of its declaration
abbrev pub start_headed : Bool → ℕ → RoutineStart → Block → Judged Headed
start_headed is_forward line (start.Heading h) b = heading_headed is_forward line h b
start_headed is_forward line (start.Function at name) b = function_identified is_forward name b

-- and then more
abbrev pub headed_then : ℕ → (Headed → Standing) → Judged Headed → Standing
headed_then line more (Accepts h) = more h
headed_then line more (Breaks rules) = Falls line rules

-- a `forward` declaration, whose body comes later
abbrev pub forwarded : ℕ → Headed → Block
forwarded line h =
    let b = h.block in
    record b { forwards = b.forwards ++ record { number = h.number; line = line } ∷ [] }

-- ---- blocks of routines (ISO 10206, 6.2.1)

-- The block of a routine is a scope of its own inside of that of the block around it (ISO 10206, 6.2.2), with
-- variables of its own.
abbrev pub scope_opened : Headed → Block → Block
scope_opened h b =
    record b { scopes = opened b.scopes; own = own_variables h.number h.parameters h.result b.own.enclosing }

-- the formal parameters as variables, from this number on
abbrev pub formals_entered : ℕ → List FormalParameter → Block → Judged Block
formals_entered number [] b = Accepts b
formals_entered number (p ∷ ps) b =
    when_accepted (formals_entered (suc number) ps)
    (entered p.name (own_thing b number (declaration.Own p.of.is p.kind (protection_of p.mode))) b)

-- and a name of its own that the result has
abbrev pub heading_entered : Headed → Block → Judged Block
heading_entered h b =
    when_accepted (result_entered h.number (length h.parameters) h.result) (formals_entered 0 h.parameters b)

-- behind it those that were there before
abbrev pub scope_closed : OwnVariables → Block → Block
scope_closed before b = record b { scopes = closed b.scopes; own = before }

-- the variables of the block that is under way: of the program, or of a routine, in which the formal parameters and
-- the result come first
abbrev pub locals_in : Block → List Enclosing → Locals
locals_in b [] = OfUnit b.unit (length b.variables)
locals_in b (e ∷ es) = OfRoutine e.number (first_own b.own) (own_count b.own)

abbrev pub locals_of : Block → Locals
locals_of b = locals_in b b.own.enclosing

-- the number of the first auxiliary variable of a block, which stands behind all that it declares
abbrev pub first_auxiliary : Locals → ℕ
first_auxiliary (OfUnit unit auxiliary) = auxiliary
first_auxiliary (OfRoutine routine first auxiliary) = auxiliary

-- whether the statements have a `for` with bounds or an assignment to a tag, in view of scopes
abbrev pub has_bounds : List Region → Compound → Bool
has_bounds scopes c = has_for c || assigns_tag scopes c

-- that of the one of `for` over members, which stands behind the two of `for` with bounds and of assignments to tags,
-- where the statements have such ones
abbrev pub members_of : List Region → Locals → Compound → ℕ
members_of scopes locals c = first_auxiliary locals + (if has_bounds scopes c then 2 else 0)

-- that of the first one of `with`, which stands behind that one, where the statements have such a `for`
abbrev pub withs_behind : ℕ → Compound → ℕ
withs_behind members c = members + (if has_for_in c then 1 else 0)

abbrev pub withs_of : List Region → Locals → Compound → ℕ
withs_of scopes locals c = withs_behind (members_of scopes locals c) c

-- what the statements of the block know
abbrev pub context_of : Block → Compound → Context
context_of b c =
    record {
      unit = b.unit;
      scopes = scopes_of b;
      files = b.files;
      results = assigned_functions b.own.enclosing;
      locals = locals_of b;
      members = members_of (scopes_of b) (locals_of b) c;
      callees = block_callees b;
      withs = withs_of (scopes_of b) (locals_of b) c;
    }

abbrev pub statements_judged : Block → Compound → Judgement Stmts
statements_judged b c = compound_judged (context_of b c) c

-- what the routine of this number does, with the variables that it has declared
abbrev pub with_block : ℕ → ℕ → List UnitVariable → Stmt → Block → Block
with_block line number variables s b =
    record b { routines = block_set number line variables s b.routines }

-- it has its body
abbrev pub with_body : ℕ → Block → Block
with_body number b = record b { bodies = b.bodies ++ number ∷ [] }

-- the end of a body by its statements, behind which these variables are those of the routine around it
abbrev pub body_closed : ℕ → ℕ → OwnVariables → Block → Judgement Stmts → Standing
body_closed line number before b (Passes ss) =
    Stands (scope_closed before (with_body number (with_block line number b.own.variables (tree.Compound ss) b)))
body_closed line number before b (Waits at) = Stands (scope_closed before (with_body number (noted false at b)))
body_closed line number before b (Fails at rules) = Falls at rules

-- where they give the result
abbrev pub body_ended : ℕ → ℕ → OwnVariables → Block → Judgement Stmts → Standing
body_ended line number before b row = if_given line (row_gives b row) (body_closed line number before b row)

-- the statements of the routine of this name and number, in whose block the name means the routine
abbrev pub body_declared : ℕ → List ℕ → ℕ → OwnVariables → Compound → Block → Standing
body_declared line name number before c b =
    if_given line (is_in_view b.own.result name b) (body_ended line number before b (statements_judged b c))

-- ---- parts of a block (ISO 10206, 6.2.1)

-- a part: what it declares, and whether the text of statements in it gives a result by a name, of its own or not
pub record PartJudged : Type 0 where
  pub declares : Block → Standing
  pub gives_to : Bool → List ℕ → Bool

-- alike the body of a routine with this line and start
pub record BodyJudged : Type 0 where
  pub declares : ℕ → RoutineStart → Block → Standing
  pub gives_to : Bool → List ℕ → Bool

-- parts in order
abbrev pub all_declared : List PartJudged → Block → Standing
all_declared [] b = Stands b
all_declared (p ∷ ps) b = and_then (all_declared ps) (p.declares b)

abbrev pub given_among : Bool → List ℕ → List PartJudged → Bool
given_among named name ps = list_any (λ p. p.gives_to named name) ps

-- the parts of a block, and then its statements; the text of both gives the result, by the second name
abbrev pub inside_declared : ℕ → List ℕ → List ℕ → ℕ → OwnVariables → List PartJudged → Compound → Block → Standing
inside_declared line name own number before ps c b =
    if_given line (is_assigned b.own.result own (given_among (is_named b.own.result) own ps) c)
    (and_then (body_declared line name number before c) (all_declared ps b))

-- the block of a routine: its formal parameters and its result, and then what is inside
abbrev pub block_declared : ℕ → List ℕ → List PartJudged → Compound → Headed → Standing
block_declared line name ps c h =
    and_then (inside_declared line name (result_name name h.result) h.number h.block.own ps c)
    (at_line line (heading_entered h (scope_opened h h.block)))

-- a part in which there is no statement
abbrev pub plain_part : (Block → Standing) → PartJudged
plain_part declares = record { declares = declares; gives_to = λ named name. false }

abbrev pub of_part : BlockPart-F PartJudged BodyJudged PartJudged → PartJudged
of_part (BlockPart-F.Constants c) = plain_part (constants_declared c.definitions)
of_part (BlockPart-F.Types t) = plain_part (λ b. at_line t.line (type_definitions t.line t.definitions b))
of_part (BlockPart-F.Variables v) = plain_part (all_variables_declared v.declarations)
of_part (BlockPart-F.Routine r) = r

abbrev pub of_body : RoutineBody-F PartJudged BodyJudged PartJudged → BodyJudged
of_body (RoutineBody-F.Forward at) =
    record {
      declares = λ line s b. headed_then line (λ h. Stands (forwarded line h)) (start_headed true line s b);
      gives_to = λ named name. false;
    }
of_body (RoutineBody-F.Block at ps c) = record {
  declares = λ line s b. headed_then line (block_declared line (start_name s) ps c) (start_headed false line s b);
  gives_to = λ named name. text_gives named name c || given_among named name ps;
}

abbrev pub of_routine : Routine-F PartJudged BodyJudged PartJudged → PartJudged
of_routine r = record { declares = r.body.declares r.line r.start; gives_to = r.body.gives_to }

abbrev pub part_judged : BlockPart → PartJudged
part_judged = fold-BlockPart PartJudged BodyJudged PartJudged of_part of_body of_routine

abbrev pub routine_body_judged : RoutineBody → BodyJudged
routine_body_judged = fold-RoutineBody PartJudged BodyJudged PartJudged of_part of_body of_routine

abbrev pub routine_judged : Routine → PartJudged
routine_judged = fold-Routine PartJudged BodyJudged PartJudged of_part of_body of_routine

-- all parts of a block, of a program or of a routine
abbrev pub parts_declared : List BlockPart → Block → Standing
parts_declared ps b = all_declared (map part_judged ps) b
