-- The variables that a unit declares, and their types.
use Rattle.std.proofs.Common.{◌≡◌, ℕ, zero, suc, ◌+◌, ◌⊎◌, inl, inr, Bool, true, false, List, [], ◌∷◌, ◌++◌, Some, slice_get, bytes_eq, refl, ap, ◌∙◌, subst, arith, zero-add}
use Rattle.std.proofs.lemmas.Option.{get_or_from_slice_get, slice_get_within}
use Rattle.std.proofs.lemmas.Slice.Eq.{bytes_eq-Decides}
use Rattle.std.specs.Prelude.{All, if◌then◌else◌}
use Rattle.ep_gen_unit.specs.UnitLaws.{AreDeclared}
use Rattle.ep_simulation.proofs.public.matching.MoreMemory.{slice_get-prefix}
use Rattle.ep_simulation.specs.Scene.{HaveValidTypes}
use Rattle.ep_meaning.proofs.public.Auxiliaries.{block_valid, withs_denoted}
use Rattle.ep_typed.specs.Auxiliaries.{block_auxiliaries, with_variables}
use Rattle.ep_typed.specs.Routines.{made_by_unit, unit_block, unit_variables}
use Rattle.ep_typed.specs.Trees.{Stmt}
use Rattle.ep_typed.specs.declared.unit.UnitType.{UnitType}
use Rattle.ep_meaning.specs.Units.{GivenUnit, IsGivenUnit, IsValid, declared_of, variable_given}
use Rattle.ep_meaning.specs.Valid.{Declarations, IsDenoter, IsVariable}
use Rattle.ep_typed.specs.Viewed.{denoter_of}
use Rattle.ep_typed.specs.declared.unit.UnitVariable.{UnitVariable}
use Rattle.ep_typed.specs.declared.unit.Unit.{Unit as TypedUnit}

pub same_name : (a b : List ℕ) → bytes_eq a b ≡ true → a ≡ b
same_name a b h = grind (arith, bytes_eq-Decides)

pub name_same : (a b : List ℕ) → a ≡ b → bytes_eq a b ≡ true
name_same a b h = grind (arith, bytes_eq-Decides)

-- what two lists have, one of them has
pub slice_get-either : {A : Type 0} (xs ys : List A) (k : ℕ) (x : A) → slice_get (xs ++ ys) k ≡ Some x → (slice_get xs k ≡ Some x) ⊎ ((j : ℕ) × (slice_get ys j ≡ Some x))
slice_get-either [] ys k x h = inr (k, h)
slice_get-either (y ∷ xs) ys zero x h = inl h
slice_get-either (y ∷ xs) ys (suc k) x h = slice_get-either xs ys k x h

-- a variable that is declared is one of the unit's own, or is given
pub declared_is : (given : List GivenUnit) (u : TypedUnit) (unit : List ℕ) (k : ℕ) (v : UnitVariable) → (declared_of given u).variables unit k ≡ Some v
    → ((u.name ≡ unit) × (slice_get (unit_variables u) k ≡ Some v)) ⊎ (variable_given given unit k ≡ Some v)
declared_is given u unit k v h = go (bytes_eq u.name unit) refl h
  where
    go : (b : Bool) → bytes_eq u.name unit ≡ b → (if b then slice_get (unit_variables u) k else variable_given given unit k) ≡ Some v
        → ((u.name ≡ unit) × (slice_get (unit_variables u) k ≡ Some v)) ⊎ (variable_given given unit k ≡ Some v)
    go true e h = inl (same_name u.name unit e, h)
    go false e h = inr h

-- a unit declares its own variables
pub own_declared : (given : List GivenUnit) (u : TypedUnit) → AreDeclared (declared_of given u) u.name 0 (unit_variables u)
own_declared given u i v h = ap (λ b. if b then slice_get (unit_variables u) (0 + i) else variable_given given u.name (0 + i)) (name_same u.name u.name refl) ∙ (ap (slice_get (unit_variables u)) (zero-add i) ∙ h)

-- what holds of all holds of the one at a place
pub at_place : {A : Type 0} (Holds : A → Type 0) (xs : List A) → All Holds xs → (k : ℕ) (x : A) → slice_get xs k ≡ Some x → Holds x
at_place Holds xs all k x e = subst Holds (get_or_from_slice_get xs k x x e) (all k x (slice_get_within xs k x e))

-- variables that are valid, and the auxiliary ones behind them
pub variables_valid : (types : List UnitType) (vs : List UnitVariable) (block : Stmt) → All (IsVariable types) vs → (k : ℕ) (v : UnitVariable) → slice_get (vs ++ block_auxiliaries block) k ≡ Some v → IsVariable types v
variables_valid types vs block valid k v h = either (slice_get-either vs (block_auxiliaries block) k v h)
  where
    either : (slice_get vs k ≡ Some v) ⊎ ((j : ℕ) × (slice_get (block_auxiliaries block) j ≡ Some v)) → IsVariable types v
    either (inl e) = subst (λ x. IsVariable types x) (get_or_from_slice_get vs k v v e) (valid k v (slice_get_within vs k v e))
    either (inr e) = block_valid types block e.0 v e.1

-- those that a unit makes are declared where all of them are
pub made_declared : (declared : Declarations) (unit : List ℕ) (vs ws : List UnitVariable) → AreDeclared declared unit 0 (vs ++ ws) → AreDeclared declared unit 0 vs
made_declared declared unit vs ws all i v h = all i v (slice_get-prefix vs (vs ++ ws) i v (record { rest = ws; is = refl }) h)

-- each variable that is given has a valid denoter
given_denoted : (types : List UnitType) (given : List GivenUnit) → ((i : ℕ) (g : GivenUnit) → slice_get given i ≡ Some g → IsGivenUnit types g)
    → (unit : List ℕ) (k : ℕ) (v : UnitVariable) → variable_given given unit k ≡ Some v → IsDenoter types (denoter_of v.denoter)
given_denoted types [] valid unit k v h = cc
given_denoted types (g ∷ gs) valid unit k v h = go (bytes_eq g.name unit) (given_denoted types gs (λ i x at. valid (suc i) x at) unit k v) h
  where
    go : (b : Bool) → (variable_given gs unit k ≡ Some v → IsDenoter types (denoter_of v.denoter)) → (if b then slice_get g.variables k else variable_given gs unit k) ≡ Some v → IsDenoter types (denoter_of v.denoter)
    go true others e = let its = valid 0 g refl in at_place (λ (w : UnitVariable). IsDenoter types (denoter_of w.denoter)) g.variables its.variables k v e
    go false others e = others e

-- and so has each one that is declared
pub declared_valid : (given : List GivenUnit) (u : TypedUnit) → IsValid given u → HaveValidTypes (declared_of given u)
declared_valid given u valid unit k v h = elim (declared_is given u unit k v h) [ inl w ↦ either (slice_get-either (made_by_unit u) (with_variables (unit_block u)) k v w.1) | inr w ↦ given_denoted u.types given (λ i g at. at_place (IsGivenUnit u.types) given valid.given_valid i g at) unit k v w ]
  where
    either : (slice_get (made_by_unit u) k ≡ Some v) ⊎ ((j : ℕ) × (slice_get (with_variables (unit_block u)) j ≡ Some v)) → IsDenoter u.types (denoter_of v.denoter)
    either (inl e) = (variables_valid u.types u.variables (unit_block u) valid.variables k v e).denoter
    either (inr e) = withs_denoted (declared_of given u) u.types refl valid.types (unit_block u) (valid.start, (valid.stop, tt)) e.0 v e.1
