-- What the rules say of small functions.
use Rattle.std.proofs.Common.{◌≡◌, ℕ, pos, Bool, true, false, List, [], ◌∷◌, ◌++◌, Option, Some, None, refl, codes, slice_get}
use Rattle.std.specs.Option.{option_map}
use Rattle.ep_tree.specs.declared.declaration.RoutineHeading.TheVariants as heading
use Rattle.ep_tree.specs.declared.routine.BlockPart.TheOpen.{BlockPart-F, RoutineBody-F}
use Rattle.ep_tree.specs.declared.routine.RoutineStart.TheVariants as start
use Rattle.ep_tree.specs.declared.statement.Compound.{Compound, roll-Compound}
use Rattle.ep_tree.specs.declared.statement.Statement.TheFolds.{fold-roll-Compound}
use Rattle.ep_typed.specs.Trees as tree
use Rattle.ep_typed.specs.declared.denoter.Bound.TheVariants.{Constant as Fixed}
use Rattle.ep_typed.specs.declared.denoter.Denoter.TheVariants as denoter
use Rattle.ep_typed.specs.declared.denoter.RequiredType.{RequiredType}
use Rattle.ep_typed.specs.declared.denoter.RequiredType.TheVariants as simple
use Rattle.ep_typed.specs.declared.interface.ConstantEntry.{ConstantEntry}
use Rattle.ep_typed.specs.declared.interface.FormalMode.TheVariants as mode
use Rattle.ep_typed.specs.declared.value.Value.{Value}
use Rattle.ep_typed.specs.declared.value.Value.TheVariants as value
use Rattle.ep_scope.specs.Required.{look_up}
use Rattle.ep_scope.specs.declared.kind.Host.TheVariants as host
use Rattle.ep_scope.specs.declared.kind.Kind.{Kind}
use Rattle.ep_scope.specs.declared.kind.Kind.TheVariants as kind
use Rattle.ep_scope.specs.declared.parameter.FormalParameter.{FormalParameter}
use Rattle.ep_scope.specs.declared.parameter.Protection.TheVariants as protection
use Rattle.ep_scope.specs.declared.parameter.TypeName.{TypeName}
use Rattle.ep_scope.specs.declared.parameter.TypeName.TheVariants as type_name
use Rattle.ep_scope.specs.declared.parameter.WrittenType.{WrittenType}
use Rattle.ep_scope.specs.declared.rule.TheConstants as rule
use Rattle.ep_scope.specs.declared.standard.StandardFiles.{StandardFiles}
use Rattle.ep_scope.specs.declared.thing.Declaration.TheVariants as declaration
use Rattle.ep_scope.specs.declared.thing.Thing.TheVariants as thing
use Rattle.ep_rules.specs.Judgements.{Judged, Accepts, Breaks}
use Rattle.ep_stmt_rules.specs.Statements.{OfRoutine}
use Rattle.ep_threats.specs.Threats.{assigns, in_arm, in_compound, in_otherwise, in_statement}
use Rattle.ep_unit_rules.specs.Own.{own_count}
use Rattle.ep_check_unit.specs.Blocks.{Block}
use Rattle.ep_check_unit.specs.Declarations.{own_thing, set_on, with_constant, with_own_variable}
use Rattle.ep_check_unit.specs.Functions.{is_assigned, is_in_view, is_threatened}
use Rattle.ep_check_unit.specs.Routines.{Headed, PartJudged, context_of, function_identified, given_among, headed_first, headed_over, heading_entered, locals_of, of_body, of_part, of_routine, result_judged, scope_opened, with_body}
use Rattle.ep_check_unit.specs.Units.{first_block}
use Rattle.ep_unit_rules.specs.declared.functions.HeadingResult.{HeadingResult}

abbrev integer : TypeName
integer = type_name.Required simple.Integer

abbrev written : TypeName → WrittenType
written t = record { name = t; is = t }

-- a: integer
abbrev parameters : List FormalParameter
parameters = record { name = codes "a"; mode = mode.Value; section = 0; of = written integer; kind = kind.Ordinal host.Integer } ∷ []

-- a result of the type integer, with a name or without
abbrev result : Option (List ℕ) → HeadingResult
result name = record { name = name; of = written integer; kind = kind.Ordinal host.Integer }

-- only that an item is accepted, or which rules fail
abbrev verdict : {A : Type 0} → Judged A → List ℕ
verdict (Accepts a) = []
verdict (Breaks rules) = rules

-- no standard file is a parameter, or `output` alone
abbrev none_given : StandardFiles
none_given = record { input = false; output = false }

abbrev output_given : StandardFiles
output_given = record { input = false; output = true }

abbrev block_in : Judged Headed → Block
block_in (Accepts h) = h.block
block_in (Breaks rules) = first_block [] none_given

abbrev stands : Judged Block → Block
stands (Accepts b) = b
stands (Breaks rules) = first_block [] none_given

-- procedure p; forward; function f(a: integer): integer; forward; function g = r: integer; forward;
abbrev before : Block
before =
    block_in
    (headed_first (codes "g") 3 [] (Some (result (Some (codes "r"))))
    (block_in (headed_first (codes "f") 2 parameters (Some (result None)) (block_in (headed_first (codes "p") 1 [] None (first_block (codes "u") output_given))))))

-- a heading that is given once more, with a body
abbrev again : Option HeadingResult → List FormalParameter → List ℕ → List ℕ
again r ps name = verdict (headed_over false name 4 (look_up before.scopes.inner.entries name) before r ps)

abbrev alone : Bool → List ℕ → Block → List ℕ
alone is_forward name b = verdict (function_identified is_forward name b)

-- the block of a function
abbrev inside : Judged Headed → Block
inside (Accepts h) = stands (heading_entered h (scope_opened h h.block))
inside (Breaks rules) = first_block [] none_given

abbrev inside_f : Block
inside_f = inside (function_identified false (codes "f") before)

abbrev inside_g : Block
inside_g = inside (function_identified false (codes "g") before)

-- ---- headings

-- function f; begin .. end
name_alone : alone false (codes "f") before ≡ []
name_alone = refl

-- function f; forward
name_forward : alone true (codes "f") before ≡ rule.REPEATED_HEADING ∷ []
name_forward = refl

-- with a second body
name_twice : alone false (codes "f") (with_body 1 before) ≡ rule.REPEATED_HEADING ∷ []
name_twice = refl

-- function p; begin .. end
name_of_procedure : alone false (codes "p") before ≡ rule.REPEATED_HEADING ∷ []
name_of_procedure = refl

-- function h; begin .. end
name_of_nothing : alone false (codes "h") before ≡ rule.UNDECLARED ∷ []
name_of_nothing = refl

-- its result has the name of the first heading
name_of_its_own : function_identified false (codes "g") before ≡ Accepts (record { number = 2; parameters = []; result = Some (result (Some (codes "r"))); block = before })
name_of_its_own = refl

-- function f(a: integer): integer; begin .. end
heading_again : again (Some (result None)) parameters (codes "f") ≡ []
heading_again = refl

-- function f: integer; begin .. end
heading_short : again (Some (result None)) [] (codes "f") ≡ []
heading_short = refl

-- function f = r: integer; begin .. end
heading_renamed : again (Some (result (Some (codes "r")))) [] (codes "f") ≡ rule.REPEATED_HEADING ∷ []
heading_renamed = refl

-- function f: char; begin .. end
heading_of_another_type : again (Some (record { name = None; of = written (type_name.Required simple.Char); kind = kind.Ordinal host.Char })) [] (codes "f") ≡ rule.REPEATED_HEADING ∷ []
heading_of_another_type = refl

-- procedure f; begin .. end
procedure_for_function : again None [] (codes "f") ≡ rule.REPEATED_HEADING ∷ []
procedure_for_function = refl

-- function p: integer; begin .. end
function_for_procedure : again (Some (result None)) [] (codes "p") ≡ rule.REPEATED_HEADING ∷ []
function_for_procedure = refl

-- function h: integer
plain_result : result_judged (codes "h") None (record { line = 4; first = codes "integer"; second = None }) before ≡ Accepts (result None)
plain_result = refl

-- function integer: integer
hidden_result : result_judged (codes "integer") None (record { line = 4; first = codes "integer"; second = None }) before ≡ Breaks (rule.OTHER_THING ∷ [])
hidden_result = refl

-- ---- blocks

abbrev no_statements : Compound
no_statements = roll-Compound (record { line = 6; statements = [] })

-- the parameter and the result of f
two_variables : own_count inside_f.own ≡ 2
two_variables = refl

-- f is assigned to
assigned : (context_of inside_f no_statements).results ≡ record { function = 1; level = 1; variable = 1; kind = kind.Ordinal host.Integer } ∷ []
assigned = refl

-- g is not, whose result has a name
not_assigned : (context_of inside_g no_statements).results ≡ []
not_assigned = refl

-- which is entered in its block
result_entered_there : look_up inside_g.scopes.inner.entries (codes "r") ≡ Some (own_thing inside_g 0 (declaration.Own integer (kind.Ordinal host.Integer) protection.Unprotected))
result_entered_there = refl

-- function h(a: integer) = a: integer
result_twice : verdict (heading_entered (record { number = 3; parameters = parameters; result = Some (result (Some (codes "a"))); block = before }) (first_block (codes "u") output_given)) ≡ rule.TWICE ∷ []
result_twice = refl

-- f means the function in its block
in_view : is_in_view inside_f.own.result (codes "f") inside_f ≡ true
in_view = refl

-- var f: integer
not_in_view : is_in_view inside_f.own.result (codes "f") (with_own_variable 5 (denoter.Required simple.Integer) integer (kind.Ordinal host.Integer) (codes "f") inside_f) ≡ false
not_in_view = refl

-- ---- blocks in blocks

-- function f(a: integer): integer; function h: integer; begin .. end; begin .. end
abbrev inside_h : Block
inside_h = inside (headed_first (codes "h") 4 [] (Some (result None)) inside_f)

-- in the block of h: var x: integer
abbrev with_x : Block
with_x = with_own_variable 5 (denoter.Required simple.Integer) integer (kind.Ordinal host.Integer) (codes "x") inside_h

-- h is in f, and is the routine 3 of the unit
around_h : option_map (λ r. r.around) (slice_get inside_h.routines 3) ≡ Some (1 ∷ [])
around_h = refl

-- the level of a name is how many routines are around its declaration
level_of_unit : look_up before.scopes.inner.entries (codes "f") ≡ Some (thing.Declared (record { unit = codes "u"; number = 1; level = 0; what = declaration.Function parameters (written integer) (kind.Ordinal host.Integer) }))
level_of_unit = refl

level_in_f : look_up (block_in (headed_first (codes "h") 4 [] None inside_f)).scopes.inner.entries (codes "h") ≡ Some (thing.Declared (record { unit = codes "u"; number = 3; level = 1; what = declaration.Procedure [] }))
level_in_f = refl

level_in_h : look_up with_x.scopes.inner.entries (codes "x") ≡ Some (thing.Declared (record { unit = codes "u"; number = 1; level = 2; what = declaration.Own integer (kind.Ordinal host.Integer) protection.Unprotected }))
level_in_h = refl

-- the block of h has variables of its own: the first one is its result
locals_of_h : locals_of with_x ≡ OfRoutine 3 1 2
locals_of_h = refl

-- both are assigned to there
both_assigned : (context_of inside_h no_statements).results ≡ record { function = 3; level = 2; variable = 0; kind = kind.Ordinal host.Integer } ∷ record { function = 1; level = 1; variable = 1; kind = kind.Ordinal host.Integer } ∷ []
both_assigned = refl

-- ---- results that are given from inside

nothing_assigned : (name : List ℕ) → assigns name no_statements ≡ false
nothing_assigned name = fold-roll-Compound Bool Bool Bool Bool (in_statement name) (in_arm name) (in_compound name) (in_otherwise name) (record { line = 6; statements = [] })

-- procedure q; begin .. end, with these statements
abbrev inner : Compound → PartJudged
inner c =
    of_part (BlockPart-F.Routine (of_routine (record {
      line = 5;
      start = start.Heading (heading.Procedure 5 (codes "q") []);
      body = of_body (RoutineBody-F.Block 5 [] c);
    })))

-- f, where only the text of q may assign to its name
abbrev given_in : Compound → Bool
given_in c = is_assigned inside_f.own.result (codes "f") (given_among false (codes "f") (inner c ∷ [])) no_statements

given_inside : (c : Compound) → assigns (codes "f") c ≡ true → given_in c ≡ true
given_inside c h = rw (nothing_assigned (codes "f"), h) refl

given_nowhere : (c : Compound) → assigns (codes "f") c ≡ false → given_in c ≡ false
given_nowhere c h = rw (nothing_assigned (codes "f"), h) refl

-- f without statements, where q assigns to variable 1 so many levels up
abbrev threatened : ℕ → Bool
threatened up =
    is_threatened inside_f.own.result
    (record {
      own =
          inside_f.routines
          ++ record {
            name = codes "q";
            line = 5;
            formals = [];
            result = None;
            variables = [];
            around = 1 ∷ [];
            block = tree.Assign 5 (tree.Own up 1) (tree.Constant (pos 3));
          } ∷ [];
      given = [];
    })
    tree.none

threatened_inside : threatened 1 ≡ true
threatened_inside = refl

-- it assigns to a variable of its own
threatened_nowhere : threatened 0 ≡ false
threatened_nowhere = refl

-- ---- constants in the list of constants

-- const s = [..], with values of this kind
abbrev entries : Kind → Value → List ConstantEntry
entries k v = (with_constant (codes "s") k v 1 (first_block (codes "u") output_given)).constants

-- ['a']
letters_entered : entries (kind.Set host.Char) (value.Set (97 ∷ [])) ≡ record { name = codes "s"; denoter = denoter.Set (denoter.Required simple.Char); value = value.Set (97 ∷ []) } ∷ []
letters_entered = refl

-- [1, 5]
numbers_entered : entries (kind.Set host.Integer) (value.Set (1 ∷ 5 ∷ []))
    ≡ record {
      name = codes "s";
      denoter = denoter.Set (denoter.Subrange (denoter.Required simple.Integer) (Fixed (pos 0)) (Fixed (pos 255)));
      value = value.Set (1 ∷ 5 ∷ []);
    } ∷ []
numbers_entered = refl

-- of an enumeration with 300 constants, whose entry is the first one of the list of types
many_entered : entries (kind.Set (host.Enumeration (record { number = 0; last = 299 }))) (value.Set (7 ∷ []))
    ≡ record {
      name = codes "s";
      denoter = denoter.Set (denoter.Subrange (denoter.Named 0 []) (Fixed (pos 0)) (Fixed (pos 255)));
      value = value.Set (7 ∷ []);
    } ∷ []
many_entered = refl

-- 'ab'
text_entered : entries kind.Text (value.Text (97 ∷ 98 ∷ [])) ≡ []
text_entered = refl

-- ---- base types of sets

-- a required type in the block of f
abbrev required_base : RequiredType → Kind → List ℕ
required_base r k = verdict (set_on (record { denoter = denoter.Required r; of = type_name.Required r; kind = k; nodes = 1; block = inside_f }))

-- set of char
set_of_chars : required_base simple.Char (kind.Ordinal host.Char) ≡ []
set_of_chars = refl

-- set of integer
set_of_integers : required_base simple.Integer (kind.Ordinal host.Integer) ≡ rule.SET_BASE ∷ []
set_of_integers = refl

-- set of set of Boolean
set_of_sets : required_base simple.Boolean (kind.Set host.Boolean) ≡ rule.ORDINAL ∷ []
set_of_sets = refl
