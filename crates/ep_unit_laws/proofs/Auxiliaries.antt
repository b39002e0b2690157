-- The auxiliary variables of a block are there, behind those that it declares: two integers where it has a `for` with bounds or an assignment to a tag, a set where it has a `for` over members, and those of its `with` statements.
use Rattle.std.proofs.Common.{◌≡◌, ℕ, ◌+◌, Bool, true, false, List, [], ◌∷◌, ◌++◌, length, Option, Some, None, slice_get, refl, sym, ap, ◌∙◌, subst, arith, append_assoc}
use Rattle.std.proofs.lemmas.List.{length-append}
use Rattle.std.specs.Prelude.{◌≤◌, All, is_some, if◌then◌else◌}
use Rattle.ep_tree.specs.declared.statement.Compound.{Compound}
use Rattle.ep_meaning.proofs.public.Auxiliaries.{auxiliary_host, member_base}
use Rattle.ep_typed.proofs.public.Forms.{named_is}
use Rattle.ep_typed.specs.Auxiliaries.{auxiliary_variable, auxiliary_variables, block_auxiliaries, first_for_in_of, first_for_of, member_variable, member_variables, with_variable, with_variables, with_variables_of}
use Rattle.ep_typed.specs.Denoters.{host_of, bare_type_of}
use Rattle.ep_typed.specs.Hosts as host
use Rattle.ep_typed.proofs.public.Units.{start_auxiliaries, start_withs}
use Rattle.ep_typed.specs.Routines.{made_by_unit, unit_block, unit_variables}
use Rattle.ep_typed.specs.Trees as tree
use Rattle.ep_typed.specs.Trees.{Denoter, Stmts, entire}
use Rattle.ep_meaning.specs.Units as units
use Rattle.ep_meaning.specs.Valid as given
use Rattle.ep_meaning.specs.Units.{first_with_in, own}
use Rattle.ep_meaning.specs.Valid.{Declarations, IsOfKind, IsPlaceWhere, IsUnmade, variables_up}
use Rattle.ep_typed.specs.Viewed.{denoter_of, stmt_of}
use Rattle.ep_typed.specs.declared.unit.Unit.{Unit as TypedUnit}
use Rattle.ep_typed.specs.declared.unit.UnitType.{UnitType}
use Rattle.ep_typed.specs.declared.unit.UnitVariable.{UnitVariable}
use Rattle.ep_scope.specs.declared.parameter.TypeName.TheVariants as type_name
use Rattle.ep_scope.specs.declared.structure.StructuredType.{StructuredType}
use Rattle.ep_expr_laws.specs.Agreement.{HoldsStructure, TypeValues}
use Rattle.ep_scope.specs.Scopes.{Region}
use Rattle.ep_stmt_rules.specs.Auxiliaries.{has_for_in}
use Rattle.ep_stmt_laws.specs.Laws.{AuxiliariesAreThere, MembersAreThere, WithsAreThere}
use Rattle.ep_stmt_rules.specs.Statements.{Locals, OfRoutine, OfUnit, block_variable}
use Rattle.ep_unit_rules.specs.Own.{own_count}
use Rattle.ep_check_unit.specs.Blocks.{Block}
use Rattle.ep_check_unit.specs.Routines.{first_auxiliary, has_bounds, locals_in, locals_of, members_of, withs_of}
use Rattle.ep_unit_rules.specs.declared.own.Enclosing.{Enclosing}
use Rattle.ep_unit_laws.proofs.Agreeing.{variables_own, within}
use Rattle.ep_unit_laws.proofs.Holds.{innermost, levels_at}
use Rattle.ep_unit_laws.proofs.Items.{own_length}
use Rattle.ep_unit_laws.proofs.Leading.{variables_in}
use Rattle.ep_meaning.proofs.public.Lists.{get_behind}

-- ---- all of a block

-- all auxiliary ones of a block with these statements
abbrev pub auxiliaries_of : Stmts → List UnitVariable
auxiliaries_of ss = block_auxiliaries (tree.Compound ss) ++ with_variables_of ss

-- those of `for` with bounds and of assignments to tags are two, where there is such a one
integers_counted : (o : Option ℕ) (has : Bool) → is_some o ≡ has → length (auxiliary_variables o) ≡ (if has then 2 else 0)
integers_counted None true e = cc
integers_counted None false e = refl
integers_counted (Some line) true e = refl
integers_counted (Some line) false e = cc

-- that of `for` over members is one, where there is such a `for`
set_counted : (o : Option ℕ) (has : Bool) → is_some o ≡ has → length (member_variables o) ≡ (if has then 1 else 0)
set_counted None true e = cc
set_counted None false e = refl
set_counted (Some line) true e = refl
set_counted (Some line) false e = cc

module _ (declared : Declarations) (types : List UnitType) where
  -- under these types the variable of this number is that one
  abbrev pub IsLocal : Locals → ℕ → UnitVariable → Type 0
  IsLocal (OfUnit unit auxiliary) n v = (declared.variables unit n ≡ Some v) × (declared.types ≡ types)
  IsLocal (OfRoutine routine first auxiliary) n v = (slice_get (variables_up declared 0) n ≡ Some v) × (declared.types ≡ types)

  -- so what holds of its denoter holds of its place
  local_placed : (Here : List UnitType → Denoter → Type 0) (locals : Locals) (n : ℕ) (v : UnitVariable) → IsLocal locals n v → Here types (denoter_of v.denoter) → IsPlaceWhere declared Here (entire (block_variable locals n))
  local_placed Here (OfUnit unit auxiliary) n v x h = (v, x.0, subst (λ ts. Here ts (denoter_of v.denoter)) (sym x.1) h)
  local_placed Here (OfRoutine routine first auxiliary) n v x h = (v, x.0, subst (λ ts. Here ts (denoter_of v.denoter)) (sym x.1) h)

  -- these variables stand behind those that the block declares
  abbrev pub AreBehind : Locals → List UnitVariable → Type 0
  AreBehind locals vs = (k : ℕ) (v : UnitVariable) → slice_get vs k ≡ Some v → IsLocal locals (first_auxiliary locals + k) v

  -- no code makes a variable from this number on
  abbrev pub IsUnmadeFrom : Locals → ℕ → Type 0
  IsUnmadeFrom locals first = (n : ℕ) → first ≤ n → IsUnmade declared (block_variable locals n)

  -- the integers, where there is a `for` with bounds or an assignment to a tag
  integers_there : (locals : Locals) (o : Option ℕ) (more : List UnitVariable) (at : ℕ) → o ≡ Some at → AreBehind locals (auxiliary_variables o ++ more) → AuxiliariesAreThere declared locals
  integers_there locals None more at e x = cc
  integers_there (OfUnit unit auxiliary) (Some line) more at e x =
      let v : UnitVariable = auxiliary_variable line in
      let first : IsLocal (OfUnit unit auxiliary) auxiliary v = subst (λ n. IsLocal (OfUnit unit auxiliary) n v) {x = auxiliary + 0} {y = auxiliary} (omega arith) (x 0 v refl) in (
        local_placed (λ ts d. host_of ts d ≡ Some host.Integer) (OfUnit unit auxiliary) auxiliary v first (auxiliary_host types line),
        local_placed (λ ts d. host_of ts d ≡ Some host.Integer) (OfUnit unit auxiliary) (auxiliary + 1) v (x 1 v refl) (auxiliary_host types line),
      )
  integers_there (OfRoutine routine own auxiliary) (Some line) more at e x =
      let v : UnitVariable = auxiliary_variable line in
      let first : IsLocal (OfRoutine routine own auxiliary) auxiliary v = subst (λ n. IsLocal (OfRoutine routine own auxiliary) n v) {x = auxiliary + 0} {y = auxiliary} (omega arith) (x 0 v refl) in (
        local_placed (λ ts d. host_of ts d ≡ Some host.Integer) (OfRoutine routine own auxiliary) auxiliary v first (auxiliary_host types line),
        local_placed (λ ts d. host_of ts d ≡ Some host.Integer) (OfRoutine routine own auxiliary) (auxiliary + 1) v (x 1 v refl) (auxiliary_host types line),
      )

  -- the set behind them, where there is a `for` over members
  set_there : (locals : Locals) (integers : List UnitVariable) (q : Option ℕ) (more : List UnitVariable) (at : ℕ) → q ≡ Some at → AreBehind locals ((integers ++ member_variables q) ++ more)
      → MembersAreThere declared locals (first_auxiliary locals + length integers)
  set_there locals integers None more at e x = cc
  set_there locals integers (Some line) more at e x =
      let v : UnitVariable = member_variable line in
      let there : slice_get ((integers ++ v ∷ []) ++ more) (length integers) ≡ Some v =
      ap (λ l. slice_get l (length integers)) (append_assoc integers (v ∷ []) more)
      ∙ (ap (slice_get (integers ++ v ∷ more)) {x = length integers} {y = length integers + 0} (omega arith) ∙ get_behind integers (v ∷ more) 0) in
      local_placed (IsOfKind (given.Set host.Integer)) locals (first_auxiliary locals + length integers) v (x (length integers) v there) (member_base types line)

  -- those of a block with these statements
  module _ (locals : Locals) (ss : Stmts) (all : AreBehind locals (auxiliaries_of ss)) where
    pub for_auxiliaries : (at : ℕ) → first_for_of ss ≡ Some at → AuxiliariesAreThere declared locals
    for_auxiliaries at has =
        integers_there locals (first_for_of ss) (member_variables (first_for_in_of ss) ++ with_variables_of ss) at has
        (subst (AreBehind locals) (append_assoc (auxiliary_variables (first_for_of ss)) (member_variables (first_for_in_of ss)) (with_variables_of ss)) all)

    pub for_in_auxiliaries : (scopes : List Region) (c : Compound) → is_some (first_for_of ss) ≡ has_bounds scopes c → (at : ℕ) → first_for_in_of ss ≡ Some at → MembersAreThere declared locals (members_of scopes locals c)
    for_in_auxiliaries scopes c same at has =
        subst (λ n. MembersAreThere declared locals (first_auxiliary locals + n)) (integers_counted (first_for_of ss) (has_bounds scopes c) same)
        (set_there locals (auxiliary_variables (first_for_of ss)) (first_for_in_of ss) (with_variables_of ss) at has all)

    -- the first one of `with` stands behind all that are made
    withs_first : (scopes : List Region) (c : Compound) → is_some (first_for_of ss) ≡ has_bounds scopes c → is_some (first_for_in_of ss) ≡ has_for_in c → withs_of scopes locals c ≡ first_auxiliary locals + length (block_auxiliaries (tree.Compound ss))
    withs_first scopes c same same_in =
        let many = length-append (auxiliary_variables (first_for_of ss)) (member_variables (first_for_in_of ss)) in
        omega (arith, many, integers_counted (first_for_of ss) (has_bounds scopes c) same, set_counted (first_for_in_of ss) (has_for_in c) same_in)

    -- each stands for a record of its type, where the types hold the structured types and no code makes a variable behind those that are made
    with_placed : (values : TypeValues) (structures : List StructuredType) → ((of : ℕ) → values (type_name.Entry of) ≡ bare_type_of types (tree.Named of [])) → All (HoldsStructure values types) structures
        → (first : ℕ) → first ≡ first_auxiliary locals + length (block_auxiliaries (tree.Compound ss)) → IsUnmadeFrom locals first → WithsAreThere declared values structures locals first (with_variables_of ss)
    with_placed values structures numbered held first is unmade k line of at =
        let v : UnitVariable = with_variable line of in
        let made : List UnitVariable = block_auxiliaries (tree.Compound ss) in
        let there : IsLocal locals (first + k) v =
        subst (λ n. IsLocal locals n v) {x = first_auxiliary locals + (length made + k)} {y = first + k} (omega (arith, is)) (all (length made + k) v (get_behind made (with_variables_of ss) k ∙ at)) in (
          unmade (first + k) (omega arith),
          local_placed (λ list d. (d ≡ tree.Named of []) × (bare_type_of list d ≡ values (type_name.Entry of)) × All (HoldsStructure values list) structures) locals (first + k) v there
              (named_is of [], ap (bare_type_of types) (named_is of []) ∙ sym (numbered of), held),
        )

    pub with_auxiliaries : (values : TypeValues) (structures : List StructuredType) → ((of : ℕ) → values (type_name.Entry of) ≡ bare_type_of types (tree.Named of [])) → All (HoldsStructure values types) structures
        → IsUnmadeFrom locals (first_auxiliary locals + length (block_auxiliaries (tree.Compound ss))) → (scopes : List Region) (c : Compound) → is_some (first_for_of ss) ≡ has_bounds scopes c → is_some (first_for_in_of ss) ≡ has_for_in c
        → WithsAreThere declared values structures locals (withs_of scopes locals c) (with_variables_of ss)
    with_auxiliaries values structures numbered held unmade scopes c same same_in =
        with_placed values structures numbered held (withs_of scopes locals c) (withs_first scopes c same same_in) (subst (IsUnmadeFrom locals) (sym (withs_first scopes c same same_in)) unmade)

-- ---- in a routine, to which the unit gives these variables

module _ (u : TypedUnit) (e : Enclosing) (es : List Enclosing) (c : Block) (line : ℕ) (called : List ℕ) (all : List UnitVariable) (its : innermost (levels_at u.routines (e ∷ es)) ≡ variables_in line called c.own ++ all) where
  many : length (variables_in line called c.own) ≡ own_count c.own
  many = own_length line called c.own.parameters c.own.result c.own.variables

  pub own_behind : AreBehind (within u (e ∷ es)) u.types (locals_in c (e ∷ es)) all
  own_behind k v at = (
    ap (λ vs. slice_get vs (own_count c.own + k)) its
        ∙ (ap (λ n. slice_get (variables_in line called c.own ++ all) (n + k)) (sym many) ∙ (get_behind (variables_in line called c.own) all k ∙ at)),
    refl,
  )

  -- where the first one that no code makes is known
  pub own_unmade : (made : ℕ) → first_with_in (slice_get u.routines e.number) ≡ own_count c.own + made → IsUnmadeFrom (within u (e ∷ es)) u.types (locals_in c (e ∷ es)) (own_count c.own + made)
  own_unmade made first n le = (record { number = e.number; variables = units.variables_in (slice_get u.routines e.number); first_with = first_with_in (slice_get u.routines e.number) }, refl, omega (arith, le, first))

-- ---- in the block of a unit

pub unit_unmade : (u : TypedUnit) (b : Block) (ss : Stmts) → b.unit ≡ u.name → u.variables ≡ b.variables → stmt_of u.start ≡ tree.Compound ss → stmt_of u.stop ≡ tree.Empty → b.own.enclosing ≡ []
    → IsUnmadeFrom (own u) u.types (locals_of b) (first_auxiliary (locals_of b) + length (block_auxiliaries (tree.Compound ss)))
unit_unmade u b ss named variables start stop outermost =
    let many : length (made_by_unit u) ≡ length b.variables + length (block_auxiliaries (tree.Compound ss)) =
    length-append u.variables (block_auxiliaries (unit_block u)) ∙ (ap (λ vs. length vs + length (block_auxiliaries (unit_block u))) variables ∙ ap (λ l. length b.variables + length l) (start_auxiliaries u stop ∙ ap block_auxiliaries start)) in
    subst (λ es. IsUnmadeFrom (own u) u.types (locals_in b es) (first_auxiliary (locals_in b es) + length (block_auxiliaries (tree.Compound ss)))) (sym outermost)
    (λ n le. (refl, named, omega (arith, le, many)))

pub unit_behind : (u : TypedUnit) (b : Block) (ss : Stmts) → b.unit ≡ u.name → u.variables ≡ b.variables → stmt_of u.start ≡ tree.Compound ss → stmt_of u.stop ≡ tree.Empty → b.own.enclosing ≡ [] → AreBehind (own u) u.types (locals_of b) (auxiliaries_of ss)
unit_behind u b ss named variables start stop outermost =
    let all : unit_variables u ≡ b.variables ++ auxiliaries_of ss =
    ap (λ l. (u.variables ++ l) ++ with_variables (unit_block u)) (start_auxiliaries u stop)
    ∙ ap (λ l. (u.variables ++ block_auxiliaries (stmt_of u.start)) ++ l) (start_withs u stop)
    ∙ ap (λ s. (u.variables ++ block_auxiliaries s) ++ with_variables s) start
    ∙ (append_assoc u.variables (block_auxiliaries (tree.Compound ss)) (with_variables_of ss) ∙ ap (λ l. l ++ auxiliaries_of ss) variables) in
    subst (λ es. AreBehind (own u) u.types (locals_in b es) (auxiliaries_of ss)) (sym outermost)
    (λ k v at. (variables_own u b.unit (length b.variables + k) named ∙ (ap (λ l. slice_get l (length b.variables + k)) all ∙ (get_behind b.variables (auxiliaries_of ss) k ∙ at)), refl))
