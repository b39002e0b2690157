-- What the static rules say of a form: its typed form, or the rules that fail there.
--
-- A form is accepted where each of its parts is and the rule of the form holds, and the typed form is then the only
-- one. Else all rules that fail in its parts fail, and where all parts are accepted, those of the form itself.
use Rattle.std.specs.Prelude.{ℕ, nat_eq, Bool, false, List, [], ◌++◌, Option}
use Rattle.std.specs.List.{list_any}
use Rattle.ep_typed.specs.Trees.{Expr}
use Rattle.ep_scope.specs.declared.kind.Kind.{Kind}
use Rattle.ep_rules.specs.declared.access.Access.{Access}

-- the typed form, or the rules that fail. A form that is not built has no rule yet: none fails, and it is not
-- accepted.
pub data Judged (A : Type 0) : Type 0 where
  Accepts : (form : A) → Judged A
  Breaks : (rules : List ℕ) → Judged A

-- An expression that is accepted: its typed form, its kind, how many typed nodes of it stand one below the other, and
-- what it is the bare name of. A form that is accepted and has no code yet, as `+` of two characters, has no typed
-- form.
pub record Typed : Type 0 where
  pub form : Option Expr
  pub kind : Kind
  pub depth : ℕ
  pub access : Access

-- what is not built, where no rule is known to fail
abbrev pub unbuilt : {A : Type 0} → Judged A
unbuilt = Breaks []

-- the rules that fail
abbrev pub faults : {A : Type 0} → Judged A → List ℕ
faults (Accepts form) = []
faults (Breaks rules) = rules

-- whether a rule fails
abbrev pub breaks : {A : Type 0} → ℕ → Judged A → Bool
breaks rule (Accepts form) = false
breaks rule (Breaks rules) = list_any (nat_eq rule) rules

-- a form of one part
abbrev pub when_accepted : {A B : Type 0} → (A → Judged B) → Judged A → Judged B
when_accepted f (Accepts a) = f a
when_accepted f (Breaks rules) = Breaks rules

-- a form of two parts
abbrev pub both : {A B C : Type 0} → (A → B → Judged C) → Judged A → Judged B → Judged C
both f (Accepts a) (Accepts b) = f a b
both f (Accepts a) (Breaks rules) = Breaks rules
both f (Breaks rules) (Accepts b) = Breaks rules
both f (Breaks rules) (Breaks more) = Breaks (rules ++ more)
