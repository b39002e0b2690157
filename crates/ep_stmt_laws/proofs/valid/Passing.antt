-- What passes of rows of items has a property, where the items have theirs.
use Rattle.std.proofs.Common.{ℕ, Bool, true, false, List, [], ◌∷◌, Option, Some, None}
use Rattle.std.specs.Prelude.{⊤, if◌then◌else◌}
use Rattle.std.specs.List.{list_any}
use Rattle.ep_typed.specs.Trees.{Entire}
use Rattle.ep_scope.specs.declared.rule.TheConstants as rule
use Rattle.ep_rules.specs.Judgements.{Judged, Accepts, Breaks}
use Rattle.ep_expr_laws.proofs.public.Passing.{IfForm}
use Rattle.ep_typed.specs.declared.unit.UnitVariable.{UnitVariable}
use Rattle.ep_stmt_rules.specs.Statements.{Context, Judgement, Passes, Waits, Fails, after, at_item, behind, formed, unless_threatening, waiting}
use Rattle.ep_stmt_rules.proofs.public.judged.Fits.{Fits}

-- what passes has the property
abbrev pub FitsRow : {A : Type 0} → (A → Type 0) → Judgement A → Type 0
FitsRow P (Passes a) = P a
FitsRow P (Waits line) = ⊤
FitsRow P (Fails line rules) = ⊤

pub item_fits : {A : Type 0} (P : A → Type 0) (line : ℕ) (j : Judged (Option A)) → Fits (IfForm P) j → FitsRow P (at_item line j)
item_fits P line (Accepts None) h = tt
item_fits P line (Accepts (Some a)) h = h
item_fits P line (Breaks rules) h = tt

pub formed_fits : {A B : Type 0} (P : A → Type 0) (Q : B → Type 0) (f : A → B) (x : Judgement A) → FitsRow P x → ((a : A) → P a → Q (f a)) → FitsRow Q (formed f x)
formed_fits P Q f (Passes a) h g = g a h
formed_fits P Q f (Waits line) h g = tt
formed_fits P Q f (Fails line rules) h g = tt

pub waiting_fits : {A B : Type 0} (Q : B → Type 0) (line : ℕ) (x : Judgement A) → FitsRow Q (waiting line x)
waiting_fits Q line (Passes a) = tt
waiting_fits Q line (Waits other) = tt
waiting_fits Q line (Fails other rules) = tt

pub after_fits : {A B C : Type 0} (P : A → Type 0) (Q : B → Type 0) (R : C → Type 0) (f : A → B → C) (x : Judgement A) (y : Judgement B) → FitsRow P x → FitsRow Q y → ((a : A) (b : B) → P a → Q b → R (f a b)) → FitsRow R (after f x y)
after_fits P Q R f (Passes a) y h k g = formed_fits Q R (f a) y k (λ b q. g a b h q)
after_fits P Q R f (Waits line) y h k g = waiting_fits R line y
after_fits P Q R f (Fails line rules) y h k g = tt

-- a form that has the property on a condition
pub form_if : {A : Type 0} (H : Type 0) (P : A → Type 0) (j : Judged (Option A)) → (H → Fits (IfForm P) j) → Fits (IfForm (λ a. H → P a)) j
form_if H P (Accepts None) h = tt
form_if H P (Accepts (Some a)) h = h
form_if H P (Breaks rules) h = tt

-- what has the property on a condition
pub fits_if : {A : Type 0} (H : Type 0) (P : A → Type 0) (j : Judgement A) → (H → FitsRow P j) → FitsRow (λ a. H → P a) j
fits_if H P (Passes a) h = h
fits_if H P (Waits line) h = tt
fits_if H P (Fails line rules) h = tt

-- a row behind another one, whose `with` statements have had their variables
pub behind_fits : {A B C : Type 0} (P : A → Type 0) (Q : Context → B → Type 0) (R : C → Type 0) (f : A → B → C) (withs : A → List UnitVariable) (c : Context) (x : Judgement A) (rest : Context → Judgement B) → FitsRow P x → ((d : Context) → FitsRow (Q d) (rest d))
    → ((a : A) (b : B) → P a → Q (behind withs c (Passes a)) b → R (f a b)) → FitsRow R (after f x (rest (behind withs c x)))
behind_fits P Q R f withs c (Passes a) rest h k g = formed_fits (Q (behind withs c (Passes a))) R (f a) (rest (behind withs c (Passes a))) (k (behind withs c (Passes a))) (λ b q. g a b h q)
behind_fits P Q R f withs c (Waits line) rest h k g = waiting_fits R line (rest c)
behind_fits P Q R f withs c (Fails line rules) rest h k g = tt

-- what is accepted has the property, where it threatens no control variable too
pub unthreatening_fits : {A : Type 0} (P : A → Type 0) (threat : Entire → A → Bool) (controls : List Entire) (j : Judged (Option A)) → Fits (IfForm P) j → Fits (IfForm P) (unless_threatening threat controls j)
unthreatening_fits P threat controls (Accepts None) h = tt
unthreatening_fits P threat controls (Accepts (Some a)) h = go (list_any (λ v. threat v a) controls)
  where
    go : (threatens : Bool) → Fits (IfForm P) (if threatens then Breaks (rule.CONTROL_THREATENED ∷ []) else Accepts (Some a))
    go true = tt
    go false = h
unthreatening_fits P threat controls (Breaks rules) h = tt
