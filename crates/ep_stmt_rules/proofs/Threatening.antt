-- A form that threatens no control variable.
use Rattle.std.proofs.Common.{◌≡◌, Bool, true, false, List, [], ◌∷◌, Option, Some, IsTrue, refl, ap, subst, sym, ◌∙◌}
use Rattle.std.specs.Prelude.{if◌then◌else◌}
use Rattle.std.specs.List.{list_any}
use Rattle.ep_typed.specs.Trees.{Entire}
use Rattle.ep_scope.specs.declared.rule.TheConstants as rule
use Rattle.ep_rules.specs.Judgements.{Judged, Accepts, Breaks, breaks}
use Rattle.ep_stmt_rules.specs.Statements.{unless_threatening}

module _ {A : Type 0} (threat : Entire → A → Bool) (controls : List Entire) where
  abbrev one_is_threatened : A → Bool
  one_is_threatened form = list_any (λ v. threat v form) controls

  -- a form that threatens none is kept
  pub is_kept : (j : Judged (Option A)) (form : A) → j ≡ Accepts (Some form) → one_is_threatened form ≡ false → unless_threatening threat controls j ≡ Accepts (Some form)
  is_kept j form is h = ap (unless_threatening threat controls) is ∙ ap (λ (b : Bool). if b then Breaks (rule.CONTROL_THREATENED ∷ []) else Accepts (Some form)) h

  -- and one that threatens one of them is refused
  pub is_refused : (j : Judged (Option A)) (form : A) → j ≡ Accepts (Some form) → one_is_threatened form ≡ true → IsTrue (breaks rule.CONTROL_THREATENED (unless_threatening threat controls j))
  is_refused j form is h =
      subst (λ k. IsTrue (breaks rule.CONTROL_THREATENED (unless_threatening threat controls k))) (sym is)
      (subst (λ (b : Bool). IsTrue (breaks rule.CONTROL_THREATENED (if b then Breaks (rule.CONTROL_THREATENED ∷ []) else Accepts (Some form)))) (sym h) refl)
