-- What the functions answer of what is judged: the form, or a rule that fails first; want of memory is free.
use Rattle.std.specs.Prelude.{◌≡◌, ℕ, List, map, Option, Result, Ok, Err, IsTrue, ⊤}
use Rattle.std.specs.Option.{option_map}
use Rattle.ep_typed.specs.Trees.{Item, Stmts, stmts}
use Rattle.ep_typed.specs.Viewed.{control_of, expr_of, item_of, member_control_of, place_of, stmt_of, arm_of}
use Rattle.ep_typed.specs.Viewed.{with_record_of}
use Rattle.ep_tree.specs.declared.expression.Label.{Label}
use Rattle.ep_tree.specs.declared.statement.Arm.{Arm, out-Arm}
use Rattle.ep_typed.specs.Trees as tree
use Rattle.ep_typed.specs.declared.tree.CaseArm.{CaseArm}
use Rattle.ep_values.specs.declared.operations.Print.{Print}
use Rattle.ep_typed.specs.declared.tree.TypedExpr.{TypedExpr}
use Rattle.ep_typed.specs.declared.tree.TypedStmt.{TypedStmt}
use Rattle.ep_typed.specs.declared.tree.WriteItem.{WriteItem}
use Rattle.ep_scope.specs.declared.kind.Kind.{Kind}
pub use Rattle.ep_rules.specs.Answers.{AnswersForm, Refuses, fails_among}
use Rattle.ep_rules.specs.Judgements.{Judged, Accepts}
use Rattle.ep_rules.specs.declared.forms.Refusal.{Refusal}
use Rattle.ep_stmt_rules.specs.Statements.{Judgement, Passes, Shown, Waits, fails_at}
use Rattle.ep_stmt_rules.specs.Statements as rows
use Rattle.ep_stmt_rules.specs.Cases as cases
use Rattle.ep_stmt_rules.specs.declared.cases.Labels.{Labels}
use Rattle.ep_stmt_rules.specs.declared.cases.CaseSelector.{CaseSelector}
use Rattle.ep_stmt_rules.specs.declared.loops.Counted.{Counted}
use Rattle.ep_stmt_rules.specs.declared.loops.ForHead.{ForHead}
use Rattle.ep_stmt_rules.specs.declared.members.MemberHead.{MemberHead}
use Rattle.ep_stmt_rules.specs.declared.outcome.CheckRefusal.{CheckRefusal}
use Rattle.ep_stmt_rules.specs.declared.outcome.CheckRefusal.TheVariants as refusal
use Rattle.ep_stmt_rules.specs.declared.outcome.Admission.{Admission}
use Rattle.ep_stmt_rules.specs.declared.outcome.Admission.TheVariants as outcome
use Rattle.ep_stmt_rules.specs.declared.statements.FunctionResult.{FunctionResult}
use Rattle.ep_stmt_rules.specs.declared.statements.Locals.{Locals}
use Rattle.ep_stmt_rules.specs.declared.statements.Locals.TheVariants as locals
use Rattle.ep_stmt_rules.specs.declared.records.Opened.{Opened}
use Rattle.ep_stmt_rules.specs.declared.records.RecordNamed.{RecordNamed}
use Rattle.ep_typed.specs.declared.tree.WithRecord.{WithRecord}
use Rattle.ep_stmt_rules.specs.declared.targets.Receiver.{Receiver}
use Rattle.ep_stmt_rules.specs.declared.targets.Receiver.TheVariants as receiver
use Rattle.ep_stmt_rules.specs.declared.targets.Target.{Target}
use Rattle.ep_threats.specs.Variables.{entire_of}
use Rattle.ep_threats.specs.declared.threats.Entire.{Entire}

-- the labels after what is judged, exactly where it is accepted, or a refusal
abbrev pub AnswersLabels : Result (Unit {0}) Refusal → Labels → Judged Labels → Type 0
AnswersLabels (Ok done) new judged = judged ≡ Accepts new
AnswersLabels (Err refusal) new judged = Refuses refusal judged

-- what items come to that break no rule
abbrev pub passed : {T A : Type 0} → (T → A) → Admission T → Judgement A
passed view (outcome.Passes t) = Passes (view t)
passed view (outcome.Waits line) = Waits line

-- a rule that fails at the first item of a row that breaks one, or want of memory
abbrev pub RefusesRow : {A : Type 0} → CheckRefusal → Judgement A → Type 0
RefusesRow (refusal.Broken b) row = IsTrue (fails_at b.rule b.line row)
RefusesRow (refusal.NotBuilt line) row = ⊥
RefusesRow refusal.NoMemory row = ⊤

-- what a row of items comes to, exactly where it breaks no rule, or a refusal
abbrev pub AnswersRow : {T A : Type 0} → (T → A) → Result (Admission T) CheckRefusal → Judgement A → Type 0
AnswersRow view (Ok found) row = row ≡ passed view found
AnswersRow view (Err r) row = RefusesRow r row

-- a function in whose block they are
abbrev pub result_of : FunctionResult → rows.FunctionResult
result_of r = record { function = r.function; level = r.level; variable = r.variable; kind = r.kind }

-- the variables of the block
abbrev pub locals_of : Locals → rows.Locals
locals_of (locals.Unit unit auxiliary) = rows.OfUnit unit.now auxiliary
locals_of (locals.Routine routine first auxiliary) = rows.OfRoutine routine first auxiliary

-- the same, where the variable of the next `with` has this number
abbrev pub numbered : rows.Context → ℕ → rows.Context
numbered c withs = record c { withs = withs }

-- what is assigned to
abbrev pub receiver_of : Receiver → rows.Receiver
receiver_of (receiver.At place) = rows.At (place_of place)
receiver_of (receiver.TagOf whole tag) = rows.TagOf (place_of whole) tag

abbrev pub target_of : Target → rows.Target
target_of t = record { receiver = option_map receiver_of t.receiver; kind = t.kind }

-- a control variable with the kind of its type, or with its host where that is ordinal, and a `for` without its body
abbrev pub named_of : Entire × Kind → rows.Named
named_of p = record { variable = entire_of p.0; kind = p.1 }

abbrev pub counted_of : Counted → rows.Counted
counted_of c = record { variable = entire_of c.variable; host = c.host }

abbrev pub head_of : ForHead → rows.ForHead
head_of h = record { control = control_of h.control; initial = expr_of h.initial; last = expr_of h.last }

-- a `for` over members without its body
abbrev pub member_head_of : MemberHead → rows.MemberHead
member_head_of h = record { control = member_control_of h.control; set = expr_of h.set }

-- the records of a `with`
abbrev pub record_named_of : RecordNamed → rows.RecordNamed
record_named_of r =
    record { of = r.of; guarded = r.protection; fields = r.fields.now; place = option_map place_of r.place }

abbrev pub heads_of : List WithRecord → List tree.WithRecord
heads_of hs = map with_record_of hs

abbrev pub opened_of : Opened → rows.Opened
opened_of o = record { scopes = o.inner; withs = o.withs; heads = option_map heads_of o.heads }

-- statements and written items, as plain data
abbrev pub stmts_of : List TypedStmt → Stmts
stmts_of ts = stmts (map stmt_of ts)

-- the selector of a `case`, the labels of an arm, and the arms
abbrev pub selector_of : CaseSelector → cases.CaseSelector
selector_of s = record { host = s.host; form = option_map expr_of s.form }

abbrev pub labels_of : Arm → List Label
labels_of a = (out-Arm a).labels

abbrev pub arms_of : List CaseArm → tree.Arms
arms_of arms = tree.arms (map arm_of arms)

abbrev pub items_of : List WriteItem → List Item
items_of is = map item_of is

-- a value that is written
abbrev pub shown_of : Print × Option TypedExpr → Shown
shown_of p = record { print = p.0; form = option_map expr_of p.1 }
