-- What a call answers of what is judged: the typed form, or one of the rules that fail; want of memory is free.
use Rattle.std.specs.Prelude.{◌≡◌, ℕ, ◌+◌, suc, nat_eq, nat_le, Bool, true, false, IsTrue, ⊤}
use Rattle.std.specs.Prelude.{List, map, None, Result, Ok, Err}
use Rattle.std.specs.List.{list_any}
use Rattle.std.specs.Option.{option_map}
use Rattle.ep_typed.specs.Viewed.{actual_of, designator_of, expr_of}
use Rattle.ep_rules.specs.Arguments as arguments
use Rattle.ep_rules.specs.Constructors as constructors
use Rattle.ep_rules.specs.Functions.{Given, given_faults}
use Rattle.ep_rules.specs.Judgements as spec
use Rattle.ep_rules.specs.Judgements.{Judged, Accepts, breaks}
use Rattle.ep_scope.specs.declared.rule.TheConstants as rules
use Rattle.ep_rules.specs.declared.forms.TheConstants as limit
use Rattle.ep_rules.specs.declared.arguments.Taken.{Taken}
use Rattle.ep_rules.specs.declared.constructors.Members.{Members}
use Rattle.ep_rules.specs.declared.forms.Typed.{Typed}
use Rattle.ep_rules.specs.declared.forms.Refusal.{Refusal}
use Rattle.ep_rules.specs.declared.forms.Refusal.TheVariants.{Rule, NoMemory}

-- the plain data of a typed form
abbrev pub typed_of : Typed → spec.Typed
typed_of t = record { form = option_map expr_of t.form; kind = t.kind; depth = t.depth; access = t.access }

-- the plain data of what is given for formal parameters
abbrev pub taken_of : Taken → arguments.Taken
taken_of t = record { actuals = option_map (map actual_of) t.actuals; depth = t.depth }

-- the plain data of what is gathered of member designators
abbrev pub members_of : Members → constructors.Members
members_of m = record { designators = option_map (map designator_of) m.designators; host = m.host; depth = m.depth }

-- the form exactly where it is accepted, or a rule that fails
abbrev pub AnswersJudged : {T A : Type 0} → (T → A) → Result T Refusal → Judged A → Type 0
AnswersJudged view (Ok t) judged = judged ≡ Accepts (view t)
AnswersJudged view (Err (Rule rule)) judged = IsTrue (breaks rule judged)
AnswersJudged view (Err NoMemory) judged = ⊤

-- whether the rule is one of these
abbrev pub fails_among : ℕ → List ℕ → Bool
fails_among rule rules = list_any (nat_eq rule) rules

-- a rule that fails in what is judged, or want of memory
abbrev pub Refuses : {A : Type 0} → Refusal → Judged A → Type 0
Refuses (Rule rule) judged = IsTrue (breaks rule judged)
Refuses NoMemory judged = ⊤

-- the form exactly where it is accepted, or a refusal
abbrev pub AnswersForm : {T A : Type 0} → (T → A) → Result T Refusal → Judged A → Type 0
AnswersForm view (Ok t) judged = judged ≡ Accepts (view t)
AnswersForm view (Err refusal) judged = Refuses refusal judged

-- alike, of a typed form
abbrev pub AnswersTyped : Result Typed Refusal → Judged spec.Typed → Type 0
AnswersTyped result judged = AnswersJudged typed_of result judged

-- one typed node more, where there is room for it
abbrev pub AnswersDepth : ℕ → Result ℕ Refusal → Type 0
AnswersDepth depth (Ok deeper) = (deeper ≡ suc depth) × (nat_le deeper limit.DEPTH ≡ true)
AnswersDepth depth (Err (Rule rule)) = (rule ≡ rules.TOO_DEEP) × (nat_le (suc depth) limit.DEPTH ≡ false)
AnswersDepth depth (Err NoMemory) = ⊥

-- so many typed nodes more, where there is room for them
abbrev pub AnswersSteps : ℕ → ℕ → Result ℕ Refusal → Type 0
AnswersSteps steps depth (Ok deeper) = (deeper ≡ steps + depth) × (nat_le deeper limit.DEPTH ≡ true)
AnswersSteps steps depth (Err (Rule rule)) = (rule ≡ rules.TOO_DEEP) × (nat_le (steps + depth) limit.DEPTH ≡ false)
AnswersSteps steps depth (Err NoMemory) = ⊥

-- an argument of a function that is accepted has no width; or one of the rules that fail in it
abbrev pub AnswersGiven : Result Typed Refusal → Given → Type 0
AnswersGiven (Ok t) g = (g.value ≡ Accepts (typed_of t)) × (g.width ≡ None)
AnswersGiven (Err (Rule rule)) g = IsTrue (list_any (nat_eq rule) (given_faults g))
AnswersGiven (Err NoMemory) g = ⊤
