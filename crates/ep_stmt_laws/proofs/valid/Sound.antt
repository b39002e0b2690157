-- What it means that statements are valid where the auxiliary variables are there, and those of `with`.
use Rattle.std.proofs.Common.{◌≡◌, ◌∙◌, ℕ, ◌+◌, List, ◌++◌, length, Option, Some, None, refl, sym, subst, arith}
use Rattle.std.specs.Option.{option_or}
use Rattle.ep_typed.specs.Auxiliaries.{first_for, first_for_arms, first_for_in, first_for_in_arms, first_for_in_of, first_for_in_other, first_for_of, first_for_other, with_variable, with_variables, with_variables_in, with_variables_of, with_variables_other}
use Rattle.ep_typed.specs.Hosts as typed
use Rattle.ep_typed.specs.Trees.{Arms, Other, Stmt, Stmts}
use Rattle.ep_meaning.specs.Valid.{AreArms, AreStmts, Declarations, IsOther, IsStmt}
use Rattle.ep_typed.specs.declared.unit.UnitVariable.{UnitVariable}
use Rattle.ep_scope.specs.declared.structure.StructuredType.{StructuredType}
use Rattle.ep_scope.specs.Scopes.{Region, depth_in}
use Rattle.ep_expr_laws.specs.Agreement.{Agrees, AgreesBy, TypeValues, structures_of}
use Rattle.ep_stmt_laws.specs.Laws.{AuxiliariesAreThere, MembersAreThere, ResultsAreThere, WithIsThere, WithsAreThere}
use Rattle.ep_meaning.proofs.public.Lists.{get_behind, get_front}
use Rattle.ep_stmt_rules.specs.Statements.{Context, block_variable}

-- what holds where there is a line holds where there is one in a part
first_of : (P : Type 0) (a b : Option ℕ) → ((line : ℕ) → option_or a b ≡ Some line → P) → (line : ℕ) → a ≡ Some line → P
first_of P None b h line e = cc
first_of P (Some first) b h line e = h first refl

second_of : (P : Type 0) (a b : Option ℕ) → ((line : ℕ) → option_or a b ≡ Some line → P) → (line : ℕ) → b ≡ Some line → P
second_of P None b h line e = h line e
second_of P (Some first) b h line e = h first refl

-- a context behind so many variables of `with`
abbrev pub behind_withs : Context → List UnitVariable → Context
behind_withs c withs = record c { withs = c.withs + length withs }

module _ (declared : Declarations) (types : TypeValues) (structures : List StructuredType) (depth : ℕ) where
  -- the declarations hold what the scopes declare
  abbrev pub AgreedIn : List Region → Type 0
  AgreedIn scopes = (structures_of scopes ≡ structures) × (depth_in scopes ≡ depth) × AgreesBy declared types structures depth scopes

  -- so they do for the laws of expressions
  abbrev pub agrees_in : (scopes : List Region) → AgreedIn scopes → Agrees declared scopes
  agrees_in scopes h = (types, subst (λ s. AgreesBy declared types s (depth_in scopes) scopes) (sym h.0) (subst (λ m. AgreesBy declared types structures m scopes) (sym h.1) h.2))

  module _ (context : Context) where
    -- and the variables of results
    abbrev pub Agreed : Type 0
    Agreed = AgreedIn context.scopes × ResultsAreThere declared types depth context.results

    -- the auxiliary variables are there, where there is a line of a `for` with bounds, and of one over members, and those of `with` statements are
    abbrev pub IfAny : Option ℕ → Option ℕ → List UnitVariable → Type 0
    IfAny bounded members withs =
        ((line : ℕ) → bounded ≡ Some line → AuxiliariesAreThere declared context.locals) × ((line : ℕ) → members ≡ Some line → MembersAreThere declared context.locals context.members)
        × WithsAreThere declared types structures context.locals context.withs withs

    -- statements, arms and an `otherwise` part that are valid so
    abbrev pub IsSound : Stmt → Type 0
    IsSound s = Agreed → IfAny (first_for s) (first_for_in s) (with_variables s) → IsStmt declared s

    abbrev pub AreSound : Stmts → Type 0
    AreSound ss = Agreed → IfAny (first_for_of ss) (first_for_in_of ss) (with_variables_of ss) → AreStmts declared ss

    abbrev pub ArmsAreSound : typed.Host → Arms → Type 0
    ArmsAreSound h arms = Agreed → IfAny (first_for_arms arms) (first_for_in_arms arms) (with_variables_in arms) → AreArms declared h arms

    abbrev pub OtherIsSound : Other → Type 0
    OtherIsSound o = Agreed → IfAny (first_for_other o) (first_for_in_other o) (with_variables_other o) → IsOther declared o

    -- of two parts each, the second one behind the first
    pub first_part : (a b p q : Option ℕ) (v w : List UnitVariable) → IfAny (option_or a b) (option_or p q) (v ++ w) → IfAny a p v
    first_part a b p q v w h =
        (first_of (AuxiliariesAreThere declared context.locals) a b h.0, first_of (MembersAreThere declared context.locals context.members) p q h.1, λ k line of e. h.2 k line of (get_front v w k (with_variable line of) e))

  pub second_part : (context : Context) (a b p q : Option ℕ) (v w : List UnitVariable) → IfAny context (option_or a b) (option_or p q) (v ++ w) → IfAny (behind_withs context v) b q w
  second_part context a b p q v w h = (
    second_of (AuxiliariesAreThere declared context.locals) a b h.0,
    second_of (MembersAreThere declared context.locals context.members) p q h.1,
    λ k line of e. subst (λ n. WithIsThere declared types structures (block_variable context.locals n) of) {x = context.withs + (length v + k)} {y = (context.withs + length v) + k} (omega arith) (h.2 (length v + k) line of (get_behind v w k ∙ e)),
  )
