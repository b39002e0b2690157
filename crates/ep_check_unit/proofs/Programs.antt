-- Programs by their parts.
use Rattle.std.proofs.Common.{◌≡◌, ℕ, List, map, Option, Some, None, Ok, Err, refl, sym, ap, ◌∙◌, subst}
use Rattle.ep_tree.specs.declared.component.Program.{Program}
use Rattle.ep_scope.specs.declared.rule.TheConstants as rule
use Rattle.ep_typed.specs.Trees.{Stmt, Stmts, Compound, Empty, Arm, stmts}
use Rattle.ep_typed.specs.Viewed.{stmt_of, stmt_step, arm_step}
use Rattle.ep_typed.specs.declared.tree.TypedStmt.{TypedStmt}
use Rattle.ep_typed.specs.declared.tree.TypedStmt.TheVariants as typed
use Rattle.ep_typed.specs.declared.tree.TypedStmt.TheOpen as layer
use Rattle.ep_typed.specs.declared.tree.TypedStmt.TheFolds.{fold-roll-TypedStmt}
use Rattle.ep_typed.specs.declared.unit.Unit.{Unit as TypedUnit}
use Rattle.ep_rules.specs.Judgements.{Judged, Accepts}
use Rattle.ep_rules.specs.declared.forms.Refusal.{Refusal}
use Rattle.ep_rules.specs.Answers.{Refuses}
use Rattle.ep_stmt_rules.specs.Answers.{RefusesRow, passed, stmts_of}
use Rattle.ep_stmt_rules.specs.Outcomes.{refused_at}
use Rattle.ep_stmt_rules.specs.Statements.{Judgement, Passes, Waits, Fails, after}
use Rattle.ep_stmt_rules.specs.declared.outcome.CheckRefusal.{CheckRefusal}
use Rattle.ep_stmt_rules.specs.declared.outcome.CheckRefusal.TheVariants as refusal
use Rattle.ep_stmt_rules.specs.declared.outcome.Admission.{Admission}
use Rattle.ep_stmt_rules.specs.declared.outcome.Admission.TheVariants as outcome
use Rattle.ep_check_unit.specs.Answers.{RefusesItems}
use Rattle.ep_check_unit.specs.Checks.{AnswersBuilt, AnswersMissing, IsRefusalOf, IsUnitWith}
use Rattle.ep_check_unit.specs.Declarations.{Standing, Stands, Falls, and_then, at_line}
use Rattle.ep_check_unit.specs.Routines.{parts_declared, statements_judged}
use Rattle.ep_check_unit.specs.Units.{IsTypedProgram, ProgramForm, body_judged, declarations_wait, first_missing, imports_of, parameters_entered, program_block, program_form, program_judged, unless_missing}
use Rattle.ep_check_unit.specs.Blocks.{Block}
use Rattle.ep_check_unit.proofs.Kept.{parameters-remain, parts-remain}
use Rattle.ep_check_unit.proofs.Refusing.{line_refused, then_refused, then_stands, there}

-- a program by the block that its declarations make
pub program_is : (p : Program) (first second : Block) → parameters_entered p.parameters (program_block p) ≡ Accepts first → parts_declared p.parts first ≡ Stands second → program_judged p ≡ body_judged p (Stands second)
program_is p first second e f =
    ap (body_judged p) (then_stands (parts_declared p.parts) (at_line p.line (parameters_entered p.parameters (program_block p))) first (ap (at_line p.line) e) ∙ f)

-- declarations that are refused
declarations_refused : (p : Program) (s : Standing) (r : CheckRefusal) → RefusesItems r s → IsRefusalOf (body_judged p s) r
declarations_refused p s refusal.NoMemory h = tt
declarations_refused p s (refusal.NotBuilt line) h = absurd h
declarations_refused p (Stands b) (refusal.Broken x) h = cc
declarations_refused p (Falls line rules) (refusal.Broken x) h = h

-- and parameters that are
pub parameters_refused : (p : Program) (first : Block) (e : Refusal) → first ≡ program_block p → Refuses e (parameters_entered p.parameters first) → IsRefusalOf (program_judged p) (refused_at p.line e)
parameters_refused p first e is h =
    let j : Judged Block = parameters_entered p.parameters (program_block p) in
    declarations_refused p (and_then (parts_declared p.parts) (at_line p.line j)) (refused_at p.line e)
    (then_refused (parts_declared p.parts) (refused_at p.line e) (at_line p.line j) (line_refused p.line e j (subst (λ b. Refuses e (parameters_entered p.parameters b)) is h)))

-- statements that are refused
row_refused : (b : Block) (missing waits : Option ℕ) (row : Judgement Stmts) (r : CheckRefusal) → RefusesRow r row → IsRefusalOf (unless_missing missing (after program_form (declarations_wait b waits) row)) r
row_refused b missing waits row refusal.NoMemory h = tt
row_refused b missing waits row (refusal.NotBuilt line) h = absurd h
row_refused b missing waits (Passes ss) (refusal.Broken c) h = cc
row_refused b missing waits (Waits line) (refusal.Broken c) h = cc
row_refused b None None (Fails line rules) (refusal.Broken c) h = h
row_refused b None (Some other) (Fails line rules) (refusal.Broken c) h = h
row_refused b (Some at) None (Fails line rules) (refusal.Broken c) h = h
row_refused b (Some at) (Some other) (Fails line rules) (refusal.Broken c) h = h

pub statements_refused : (p : Program) (first second : Block) (r : CheckRefusal) → parameters_entered p.parameters (program_block p) ≡ Accepts first → parts_declared p.parts first ≡ Stands second
    → RefusesRow r (statements_judged second p.body) → IsRefusalOf (program_judged p) r
statements_refused p first second r e f h =
    rw (program_is p first second e f) (row_refused second (first_missing second.forwards second.bodies) second.waits (statements_judged second p.body) r h)

-- a procedure that has no body
missing_broken : (b : Block) (line : ℕ) (waits : Option ℕ) (found : Admission (List TypedStmt))
    → IsRefusalOf (unless_missing (Some line) (after program_form (declarations_wait b waits) (passed stmts_of found))) (refusal.Broken (record { rule = rule.NO_BODY; line = line }))
missing_broken b line None (outcome.Passes ss) = there ProgramForm line
missing_broken b line None (outcome.Waits other) = there ProgramForm line
missing_broken b line (Some at) (outcome.Passes ss) = there ProgramForm line
missing_broken b line (Some at) (outcome.Waits other) = there ProgramForm line

missing_first : (b : Block) (missing waits : Option ℕ) (found : Admission (List TypedStmt)) (r : CheckRefusal) → AnswersMissing missing (Err r)
    → IsRefusalOf (unless_missing missing (after program_form (declarations_wait b waits) (passed stmts_of found))) r
missing_first b None waits found r h = cc
missing_first b (Some line) waits found r h = let e : r ≡ refusal.Broken (record { rule = rule.NO_BODY; line = line }) = cc in rw e (missing_broken b line waits found)

pub missing_refused : (p : Program) (first second : Block) (found : Admission (List TypedStmt)) (r : CheckRefusal) → parameters_entered p.parameters (program_block p) ≡ Accepts first → parts_declared p.parts first ≡ Stands second
    → statements_judged second p.body ≡ passed stmts_of found → AnswersMissing (first_missing second.forwards second.bodies) (Err r) → IsRefusalOf (program_judged p) r
missing_refused p first second found r e f g h = rw (program_is p first second e f, g) (missing_first second (first_missing second.forwards second.bodies) second.waits found r h)

-- none is missing
none_missing : (missing : Option ℕ) → AnswersMissing missing (Ok tt) → missing ≡ None
none_missing None h = refl
none_missing (Some line) h = cc

-- statements that wait, or declarations that do
waits_first : (b : Block) (waits : Option ℕ) (found : Admission (List TypedStmt)) (r : CheckRefusal) → AnswersBuilt waits found (Err r) → IsRefusalOf (after program_form (declarations_wait b waits) (passed stmts_of found)) r
waits_first b None (outcome.Passes ss) r h = cc
waits_first b None (outcome.Waits line) r h = let e : r ≡ refusal.NotBuilt line = cc in rw e refl
waits_first b (Some line) (outcome.Passes ss) r h = let e : r ≡ refusal.NotBuilt line = cc in rw e refl
waits_first b (Some line) (outcome.Waits other) r h = let e : r ≡ refusal.NotBuilt line = cc in rw e refl

pub waits_refused : (p : Program) (first second : Block) (found : Admission (List TypedStmt)) (r : CheckRefusal) → parameters_entered p.parameters (program_block p) ≡ Accepts first → parts_declared p.parts first ≡ Stands second
    → statements_judged second p.body ≡ passed stmts_of found → AnswersMissing (first_missing second.forwards second.bodies) (Ok tt) → AnswersBuilt second.waits found (Err r) → IsRefusalOf (program_judged p) r
waits_refused p first second found r e f g m h =
    rw (program_is p first second e f, none_missing (first_missing second.forwards second.bodies) m, g) (waits_first second second.waits found r h)

-- a program that is accepted
all_pass : (b : Block) (waits : Option ℕ) (found : Admission (List TypedStmt)) (ss : List TypedStmt) → AnswersBuilt waits found (Ok ss) → after program_form (declarations_wait b waits) (passed stmts_of found) ≡ Passes (program_form b (stmts_of ss))
all_pass b None (outcome.Passes all) ss h = let e : ss ≡ all = cc in rw e refl
all_pass b None (outcome.Waits line) ss h = cc
all_pass b (Some line) (outcome.Passes all) ss h = cc
all_pass b (Some line) (outcome.Waits other) ss h = cc

pub program_passes : (p : Program) (first second : Block) (found : Admission (List TypedStmt)) (ss : List TypedStmt) → parameters_entered p.parameters (program_block p) ≡ Accepts first → parts_declared p.parts first ≡ Stands second
    → statements_judged second p.body ≡ passed stmts_of found → AnswersMissing (first_missing second.forwards second.bodies) (Ok tt) → AnswersBuilt second.waits found (Ok ss) → program_judged p ≡ Passes (program_form second (stmts_of ss))
program_passes p first second found ss e f g m h =
    rw (program_is p first second e f, none_missing (first_missing second.forwards second.bodies) m, g) (all_pass second second.waits found ss h)

pub compound_is : (ss : List TypedStmt) → stmt_of (typed.Compound ss) ≡ Compound (stmts (map stmt_of ss))
compound_is ss = ap stmt_of (sym (typed.rolls-Compound ss)) ∙ fold-roll-TypedStmt Stmt Arm stmt_step arm_step (layer.Compound ss)

pub empty_is : stmt_of typed.Empty ≡ Empty
empty_is = ap stmt_of (sym typed.rolls-Empty) ∙ fold-roll-TypedStmt Stmt Arm stmt_step arm_step layer.Empty

-- its unit
pub program_typed : (p : Program) (first second : Block) (found : Admission (List TypedStmt)) (ss : List TypedStmt) (u : TypedUnit) → parameters_entered p.parameters (program_block p) ≡ Accepts first → parts_declared p.parts first ≡ Stands second
    → statements_judged second p.body ≡ passed stmts_of found → AnswersMissing (first_missing second.forwards second.bodies) (Ok tt) → AnswersBuilt second.waits found (Ok ss) → IsUnitWith second (imports_of p.parameters) ss u → IsTypedProgram p u
program_typed p first second found ss u e f g m h w = record {
  form = program_form second (stmts_of ss);
  passes = program_passes p first second found ss e f g m h;
  unit = record {
    name = w.name ∙ parts-remain p.name p.parts first second f (parameters-remain p.name p.parameters (program_block p) first e refl);
    program = w.program;
    interface = w.interface;
    imports = w.imports_are;
    types = w.types;
    constants = w.constants;
    variables = w.variables;
    routines = w.routines;
    start = ap stmt_of w.start ∙ compound_is ss;
    stop = ap stmt_of w.stop ∙ empty_is;
  };
}
