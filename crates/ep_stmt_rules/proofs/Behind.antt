-- The numbers behind a row of items, where each of its `with` statements has had a variable.
use Rattle.std.proofs.Common.{◌≡◌, ℕ, ◌+◌, List, Result, Ok, Err, length, refl, ap}
use Rattle.std.specs.Result.{IfOk}
use Rattle.ep_typed.specs.declared.unit.UnitVariable.{UnitVariable}
use Rattle.ep_check_expr.specs.declared.broken.Broken.{Broken}
use Rattle.ep_stmt_rules.specs.Answers.{RefusesRow, numbered}
use Rattle.ep_stmt_rules.specs.Statements.{Context, Judgement, Passes, Waits, Fails, behind}
use Rattle.ep_stmt_rules.specs.declared.outcome.CheckRefusal.TheVariants as refusal

module _ {A : Type 0} (withs : A → List UnitVariable) (c : Context) where
  -- behind what passes
  pub behind_passes : {E : Type 0} (first : ℕ) (a : A) (r : Result ℕ E) → IfOk r (λ next. next ≡ first + length (withs a)) → IfOk r (λ next. numbered c next ≡ behind withs (numbered c first) (Passes a))
  behind_passes first a (Ok next) h = ap (numbered c) h
  behind_passes first a (Err e) h = tt

  -- what is refused has none
  pub behind_refused : (b : Broken) (x : Judgement A) → RefusesRow (refusal.Broken b) x → c ≡ behind withs c x
  behind_refused b (Passes a) h = cc
  behind_refused b (Waits line) h = refl
  behind_refused b (Fails line rules) h = refl
