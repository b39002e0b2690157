-- Auxiliary variables are valid: those of `for` with bounds are integers, that of `for` over members is a set of integers, and those of `with` are of record types of the unit.
use Rattle.std.specs.Prelude.{All}
use Rattle.std.proofs.Common.{◌≡◌, ◌∙◌, ◌+◌, ℕ, pos, suc, zero, List, [], ◌∷◌, ◌++◌, length, map, Option, Some, None, slice_get, refl, ap, subst, sym, arith, option_map}
use Rattle.std.proofs.lemmas.List.{length-map}
use Rattle.std.proofs.lemmas.Option.{get_or_from_slice_get, same_Some, slice_get_within}
use Rattle.ep_typed.specs.Auxiliaries.{block_auxiliaries, auxiliary_variable, auxiliary_variables, first_for, first_for_in, member_variable, member_variables, with_variable, with_variables, with_variables_of, with_variables_in, with_variables_other}
use Rattle.ep_typed.specs.Denoters.{base_of, definition_of, host_of, required_type, type_of, bare_type_of}
use Rattle.ep_typed.specs.Hosts as host
use Rattle.ep_typed.specs.Hosts.{Host}
use Rattle.ep_typed.specs.Routines.{first_with, formal_variable, made_by_unit, made_variables, unit_block, unit_variables, variables_of}
use Rattle.ep_typed.specs.Trees.{Fixed, Denoter, Required, Named, Subrange, Set, Place, Entire, OfUnit, OfRoutine, entire, Stmt, Stmts, Empty, Compound, Assign, AssignTag, If, While, Repeat, For, ForIn, With, Procedure, Halt, Write, none, next, Case, Arms, no_arm, next_arm, Other, no_other, otherwise_do}
use Rattle.ep_values.specs.TypeValues.{TypeValue, Record, bare_of}
use Rattle.ep_values.specs.TypeValues as type
use Rattle.ep_values.specs.Sets.{last_member}
use Rattle.ep_typed.specs.declared.denoter.Bound.TheVariants as bound
use Rattle.ep_typed.specs.declared.denoter.Denoter.TheVariants as written
use Rattle.ep_meaning.specs.Valid.{required, named, subrange, set, Declarations, IsDenoter, IsPlaceWhere, IsStmt, AreStmts, AreArms, IsOther, IsType, IsTyped, IsUnmade, IsVariable, IsWith}
use Rattle.ep_typed.specs.Viewed.{denoter_of, stmt_of}
use Rattle.ep_typed.specs.declared.denoter.RequiredType.TheVariants as simple
use Rattle.ep_typed.specs.declared.unit.Unit.{Unit as TypedUnit}
use Rattle.ep_typed.specs.declared.unit.UnitRoutine.{UnitRoutine}
use Rattle.ep_typed.specs.declared.unit.UnitType.{UnitType}
use Rattle.ep_typed.specs.declared.unit.UnitVariable.{UnitVariable}
use Rattle.ep_typed.proofs.public.Denoters.{is_of, instances_are_one, types_are_instances}
use Rattle.ep_typed.proofs.public.Forms.{named_is, required_is, set_is, subrange_is}
use Rattle.ep_meaning.proofs.public.Typed.{typed_instance}
use Rattle.ep_meaning.proofs.public.Lists.{get_behind}

integer_valid : (types : List UnitType) → IsDenoter types (Required simple.Integer)
integer_valid types = record { type_value = required_type simple.Integer; has_type = refl; typed = required simple.Integer }

pub auxiliary_valid : (types : List UnitType) (line : ℕ) → IsVariable types (auxiliary_variable line)
auxiliary_valid types line = record { denoter = subst (λ d. IsDenoter types d) (sym (required_is simple.Integer)) (integer_valid types); tuple = refl }

-- each is an integer
pub auxiliary_host : (types : List UnitType) (line : ℕ) → host_of types (denoter_of (auxiliary_variable line).denoter) ≡ Some host.Integer
auxiliary_host types line = ap (λ d. host_of types d) (required_is simple.Integer)

pub auxiliaries_valid : (types : List UnitType) (o : Option ℕ) (k : ℕ) (v : UnitVariable) → slice_get (auxiliary_variables o) k ≡ Some v → IsVariable types v
auxiliaries_valid types None k v h = cc
auxiliaries_valid types (Some line) zero v h = let e : auxiliary_variable line ≡ v = cc in subst (λ w. IsVariable types w) e (auxiliary_valid types line)
auxiliaries_valid types (Some line) (suc zero) v h = let e : auxiliary_variable line ≡ v = cc in subst (λ w. IsVariable types w) e (auxiliary_valid types line)
auxiliaries_valid types (Some line) (suc (suc k)) v h = cc

-- the denoter of sets of any ordinals that may be members
abbrev any_members : Denoter
any_members = Set (Subrange (Required simple.Integer) (Fixed (pos 0)) (Fixed (pos last_member)))

pub members_is : (line : ℕ) → denoter_of (member_variable line).denoter ≡ any_members
members_is line =
    let base = subrange_is (written.Required simple.Integer) (bound.Constant (pos 0)) (bound.Constant (pos last_member)) in
    set_is (written.Subrange (written.Required simple.Integer) (bound.Constant (pos 0)) (bound.Constant (pos last_member)))
    ∙ (ap Set base ∙ ap (λ d. Set (Subrange d (Fixed (pos 0)) (Fixed (pos last_member)))) (required_is simple.Integer))

members_denoter : (types : List UnitType) → IsDenoter types any_members
members_denoter types = record {
  type_value = type.Set (pos 0) (pos last_member);
  has_type = refl;
  typed = set (Subrange (Required simple.Integer) (Fixed (pos 0)) (Fixed (pos last_member))) (type.Ordinal (pos 0) (pos last_member)) (pos 0) (pos last_member) (subrange (Required simple.Integer) (pos 0) (pos last_member) host.Integer refl (refl, refl, refl, refl, refl)) refl refl refl;
}

pub member_valid : (types : List UnitType) (line : ℕ) → IsVariable types (member_variable line)
member_valid types line = record { denoter = subst (λ d. IsDenoter types d) (sym (members_is line)) (members_denoter types); tuple = refl }

-- it is a set of integers
pub member_base : (types : List UnitType) (line : ℕ) → (base : Denoter) × (base_of types (denoter_of (member_variable line).denoter) ≡ Some base) × (host_of types base ≡ Some host.Integer)
member_base types line = (Subrange (Required simple.Integer) (Fixed (pos 0)) (Fixed (pos last_member)), ap (λ d. base_of types d) (members_is line), refl)

-- those of a block that are made
pub block_valid : (types : List UnitType) (s : Stmt) (k : ℕ) (v : UnitVariable) → slice_get (block_auxiliaries s) k ≡ Some v → IsVariable types v
block_valid types s = go (first_for s) (first_for_in s)
  where
    one : (o : Option ℕ) (k : ℕ) (v : UnitVariable) → slice_get (member_variables o) k ≡ Some v → IsVariable types v
    one None k v h = cc
    one (Some line) zero v h = let e : member_variable line ≡ v = cc in subst (λ w. IsVariable types w) e (member_valid types line)
    one (Some line) (suc k) v h = cc

    go : (o q : Option ℕ) (k : ℕ) (v : UnitVariable) → slice_get (auxiliary_variables o ++ member_variables q) k ≡ Some v → IsVariable types v
    go None q k v h = one q k v h
    go (Some line) q zero v h = auxiliaries_valid types (Some line) zero v h
    go (Some line) q (suc zero) v h = auxiliaries_valid types (Some line) (suc zero) v h
    go (Some line) q (suc (suc k)) v h = one q k v h

-- ---- `with`

-- the variables of the `with` statements of a routine are those from the first number on that no code makes
pub withs_of_routine : (r : UnitRoutine) (k : ℕ) → slice_get (variables_of r) (first_with r + k) ≡ slice_get (with_variables (stmt_of r.block)) k
withs_of_routine r k =
    let formals : List UnitVariable = map (formal_variable r.line) r.formals in
    let made : List UnitVariable = made_variables r in
    let at : first_with r + k ≡ length formals + (length made + k) = omega (arith, length-map r.formals (formal_variable r.line)) in
    ap (slice_get (variables_of r)) at ∙ (get_behind formals (made ++ with_variables (stmt_of r.block)) (length made + k) ∙ get_behind made (with_variables (stmt_of r.block)) k)

-- and so are those of the start and the stop of a unit
pub withs_of_unit : (u : TypedUnit) (k : ℕ) → slice_get (unit_variables u) (length (made_by_unit u) + k) ≡ slice_get (with_variables (unit_block u)) k
withs_of_unit u k = get_behind (made_by_unit u) (with_variables (unit_block u)) k

module _ (declared : Declarations) (types : List UnitType) (of_types : declared.types ≡ types) (valid : All (IsType types) types) where
  -- the variables have valid denoters
  abbrev pub AreDenoted : List UnitVariable → Type 0
  AreDenoted vs = (k : ℕ) (v : UnitVariable) → slice_get vs k ≡ Some v → IsDenoter types (denoter_of v.denoter)

  both_denoted : (vs ws : List UnitVariable) → AreDenoted vs → AreDenoted ws → AreDenoted (vs ++ ws)
  both_denoted [] ws p q k v e = q k v e
  both_denoted (w ∷ vs) ws p q zero v e = p zero v e
  both_denoted (w ∷ vs) ws p q (suc k) v e = both_denoted vs ws (λ j x d. p (suc j) x d) q k v e

  -- a name that has a type value is that of a valid type
  type_valid : (of : ℕ) (t : TypeValue) → type_of types (Named of []) ≡ Some t → IsDenoter types (Named of [])
  type_valid of t e =
      let x = is_of types (Named of []) t (types_are_instances types (Named of []) t e) in
      let its : IsType types x.0 = subst (λ u. IsType types u) (get_or_from_slice_get types of x.0 x.0 x.1) (valid of x.0 (slice_get_within types of x.0 x.1)) in
      let d : IsDenoter types (definition_of x.0) = its.denoter in
      let same : d.type_value ≡ t = instances_are_one types (definition_of x.0) d.type_value t (typed_instance types (definition_of x.0) d.type_value d.typed) x.2 in
      record { type_value = t; has_type = e; typed = named of x.0 x.1 (subst (λ u. IsTyped types (definition_of x.0) u) same d.typed) }

  -- whatever initial states it has
  named_valid : (of : ℕ) (t : TypeValue) → bare_type_of types (Named of []) ≡ Some t → IsDenoter types (Named of [])
  named_valid of b e = go (type_of types (Named of [])) refl e
    where
      go : (o : Option TypeValue) → type_of types (Named of []) ≡ o → option_map bare_of o ≡ Some b → IsDenoter types (Named of [])
      go None is f = cc
      go (Some t) is f = type_valid of t is

  -- the type value of the variable that stands for a place
  its_type : (v : Entire) (of : ℕ) (t : TypeValue) → IsUnmade declared v → IsPlaceWhere declared (λ ts d. (d ≡ Named of []) × (bare_type_of ts d ≡ Some t)) (entire v) → bare_type_of types (Named of []) ≡ Some t
  its_type (OfUnit unit k) of t (no_level, unit_is, unmade) (w, there, is) = ap (λ ts. bare_type_of ts (Named of [])) (sym of_types) ∙ (ap (bare_type_of declared.types) (sym is.0) ∙ is.1)
  its_type (OfRoutine zero k) of t unmade (w, there, is) = ap (λ ts. bare_type_of ts (Named of [])) (sym of_types) ∙ (ap (bare_type_of declared.types) (sym is.0) ∙ is.1)
  its_type (OfRoutine (suc up) k) of t unmade is = absurd unmade

  one_denoted : (line of : ℕ) (v : Entire) (p : Place) → IsWith declared v of p → IsDenoter types (denoter_of (with_variable line of).denoter)
  one_denoted line of v p h = subst (λ d. IsDenoter types d) (sym (named_is of [])) (named_valid of (Record h.components) (its_type v of (Record h.components) h.unmade h.variable))

  mutual
    -- the variables of the `with` statements in a valid statement have valid denoters
    pub withs_denoted : (s : Stmt) → IsStmt declared s → AreDenoted (with_variables s)
    withs_denoted Empty h k v e = cc
    withs_denoted (Compound ss) h k v e = withs_of_denoted ss h k v e
    withs_denoted (Assign line p x) h k v e = cc
    withs_denoted (AssignTag line c p s x) h k v e = cc
    withs_denoted (If line x a b) h k v e = both_denoted (with_variables a) (with_variables b) (withs_denoted a h.1) (withs_denoted b h.2) k v e
    withs_denoted (While line x s) h k v e = withs_denoted s h.1 k v e
    withs_denoted (Repeat line ss x) h k v e = withs_of_denoted ss h.0 k v e
    withs_denoted (For line c x y s) h k v e = withs_denoted s h.1 k v e
    withs_denoted (ForIn line c x s) h k v e = withs_denoted s h.1 k v e
    withs_denoted (With line w of p s) h zero v e = subst (λ (u : UnitVariable). IsDenoter types (denoter_of u.denoter)) (same_Some (with_variable line of) v e) (one_denoted line of w p h.0)
    withs_denoted (With line w of p s) h (suc k) v e = withs_denoted s h.1 k v e
    withs_denoted (Procedure line callee given) h k v e = cc
    withs_denoted (Case line x arms o) h k v e = both_denoted (with_variables_in arms) (with_variables_other o) (withs_in_denoted (h.0).0 arms (h.0).2) (withs_other_denoted o h.1) k v e
    withs_denoted (Halt line) h k v e = cc
    withs_denoted (Write line items ends_line) h k v e = cc

    withs_of_denoted : (ss : Stmts) → AreStmts declared ss → AreDenoted (with_variables_of ss)
    withs_of_denoted none h k v e = cc
    withs_of_denoted (next s ss) h k v e = both_denoted (with_variables s) (with_variables_of ss) (withs_denoted s h.0) (withs_of_denoted ss h.1) k v e

    withs_in_denoted : (host : Host) (arms : Arms) → AreArms declared host arms → AreDenoted (with_variables_in arms)
    withs_in_denoted host no_arm h k v e = cc
    withs_in_denoted host (next_arm ranges s arms) h k v e = both_denoted (with_variables s) (with_variables_in arms) (withs_denoted s h.2) (withs_in_denoted host arms h.3) k v e

    withs_other_denoted : (o : Other) → IsOther declared o → AreDenoted (with_variables_other o)
    withs_other_denoted no_other h k v e = cc
    withs_other_denoted (otherwise_do ss) h k v e = withs_of_denoted ss h k v e
