-- Constants of a block are held by the unit that has its lists.
use Rattle.std.proofs.Common.{◌≡◌, ◌∙◌, ℕ, ℤ, pos, suc, ◌≤◌, ◌+◌, nat_le, Bool, true, false, List, [], ◌∷◌, map, length, Option, Some, None, IsTrue, inl, inr, option_map, refl, sym, ap, subst, arith}
use Rattle.std.proofs.lemmas.Bool.{cases_lt}
use Rattle.std.proofs.lemmas.Bool.Decides.{nat_tests}
use Rattle.std.proofs.lemmas.List.Elements.{All-push}
use Rattle.std.specs.Prelude.{All, ⊤, if◌then◌else◌}
use Rattle.ep_outside.specs.Known.{IsPrefix}
use Rattle.ep_tree.specs.declared.declaration.ConstantDefinition.{ConstantDefinition}
use Rattle.ep_tree.specs.declared.expression.ComponentValue.{ComponentValue}
use Rattle.ep_typed.specs.Denoters.{bare_type_of, type_of}
use Rattle.ep_typed.specs.Hosts as typed
use Rattle.ep_typed.specs.Hosts.{greatest, is_of_host, least}
use Rattle.ep_values.specs.Sets.{IsSet, are_between, has, is_ordinal, last_member, member_limit}
use Rattle.ep_typed.specs.Trees as tree
use Rattle.ep_typed.specs.Trees.{Elements, elements}
use Rattle.ep_values.specs.TypeValues as type
use Rattle.ep_values.specs.TypeValues.{Ordinal, TypeValue, bare_of}
use Rattle.ep_meaning.specs.Valid as valid
use Rattle.ep_meaning.specs.Valid.{IsConstant, IsStartFor, IsStructured, IsTyped, LiesIn, structured_start}
use Rattle.ep_typed.specs.Viewed.{constant_expr, denoter_of, element_of}
use Rattle.ep_typed.specs.declared.denoter.Bound.TheVariants.{Constant as Fixed}
use Rattle.ep_typed.specs.declared.denoter.Denoter.{Denoter}
use Rattle.ep_typed.specs.declared.denoter.Denoter.TheVariants as denoter
use Rattle.ep_typed.specs.declared.interface.ConstantEntry.{ConstantEntry}
use Rattle.ep_typed.specs.declared.tree.Element.{Element}
use Rattle.ep_typed.specs.declared.unit.Unit.{Unit as TypedUnit}
use Rattle.ep_typed.specs.declared.value.Value.{Value}
use Rattle.ep_typed.specs.declared.value.Value.TheVariants as value
use Rattle.ep_typed.proofs.public.Forms.{named_is, set_is, subrange_is}
use Rattle.ep_values.proofs.public.Sets.{between_yes, has_no_more}
use Rattle.ep_meaning.proofs.public.Typed.{typed_bare}
use Rattle.ep_scope.specs.Scopes.{depth_in}
use Rattle.ep_scope.specs.declared.kind.Enumeration.{Enumeration}
use Rattle.ep_scope.specs.declared.kind.Host.{Host}
use Rattle.ep_scope.specs.declared.kind.Host.TheVariants as host
use Rattle.ep_scope.specs.declared.kind.Kind.{Kind}
use Rattle.ep_scope.specs.declared.kind.Kind.TheVariants as kind
use Rattle.ep_scope.specs.declared.rule.TheConstants as rule
use Rattle.ep_scope.specs.declared.thing.Declaration.TheVariants as declaration
use Rattle.ep_expr_laws.specs.Agreement.{IsConstantIf, IsConstantOf, IsSetOver, structures_of}
use Rattle.ep_check_expr.specs.Constants.{constant_judged}
use Rattle.ep_rules.specs.Hosts.{typed_host}
use Rattle.ep_rules.specs.Judgements.{Judged, Accepts, Breaks}
use Rattle.ep_expr_laws.specs.Laws.{ConstantsAreSound, ConstantsAreKnown}
use Rattle.ep_check_expr.specs.declared.constants.ConstantForm.{ConstantForm}
use Rattle.ep_stmt_rules.proofs.public.judged.Fits.{Any, Fits, fits_any, fits_both, fits_is, fits_then}
use Rattle.ep_unit_rules.specs.Constants.{entry_denoter, with_entry}
use Rattle.ep_unit_rules.specs.Sets.{are_all_members, members_denoter, set_denoter}
use Rattle.ep_unit_rules.specs.Types.{host_denoter}
use Rattle.ep_check_unit.specs.Declarations.{constant_definition, constant_entered, constant_fitting, enumerated, own_thing, scopes_of, unused, with_constant}
use Rattle.ep_unit_rules.specs.FittingConstants.{fits, unless_outside}
use Rattle.ep_check_unit.specs.Blocks.{Block}
use Rattle.ep_unit_laws.proofs.Agreeing.{block_agrees, holds_agrees, within}
use Rattle.ep_unit_laws.proofs.Denoting.{Denotes, DenotesSet, bare_takes, denotes_set, denotes_subrange, full_type, kind_bare, kind_has_values}
use Rattle.ep_unit_laws.proofs.Fitting.{value_lies}
use Rattle.ep_unit_laws.proofs.Holds.{Holds, Lists, ListsKind, constant_valid, host_denotes, known_listed, lists_small, type_values}
use Rattle.ep_unit_laws.proofs.Open.{IsOpen}
use Rattle.ep_unit_laws.proofs.Leading.{Grows, Leads, Enters, enters_refl, enters_then, grown, grows_trans, named_grows, named_holds, noted_leads, stays}
use Rattle.ep_unit_laws.proofs.Prefixes.{length_push, prefix_length, prefix_more, prefix_refl}

-- the list of constants grows
entry_prefix : (name : List ℕ) (d : Option Denoter) (v : Value) (all : List ConstantEntry) → IsPrefix all (with_entry name d v all)
entry_prefix name None v all = prefix_refl all
entry_prefix name (Some d) v all = prefix_more all (record { name = name; denoter = d; value = v } ∷ [])

constant_grows : (name : List ℕ) (k : Kind) (v : Value) (deep : ℕ) (b : Block) → Grows b (with_constant name k v deep b)
constant_grows name k v deep b =
    let c : Block = record b { constants = with_entry name (entry_denoter k v) v b.constants } in
    grows_trans b c (with_constant name k v deep b) (grown b (record (stays b) { to = c; constants = entry_prefix name (entry_denoter k v) v b.constants }))
    (named_grows name (own_thing b (length b.constants) (declaration.Constant k v deep)) c (λ x. tt))

-- ---- the values of a host that may be members

-- the bounds of the type that has them
abbrev members_least : Host → ℤ
members_least h = if are_all_members h then least (typed_host h) else pos 0

abbrev members_greatest : Host → ℤ
members_greatest h = if are_all_members h then greatest (typed_host h) else pos last_member

-- where not all are, those from 0 to 255 are values of the host
first_of_host : (h : Host) → are_all_members h ≡ false → IsTrue (is_of_host (typed_host h) (pos 0))
first_of_host host.Integer e = refl
first_of_host host.Char e = cc
first_of_host host.Boolean e = cc
first_of_host (host.Enumeration f) e = grind (arith, nat_tests)

last_of_host : (h : Host) → are_all_members h ≡ false → IsTrue (is_of_host (typed_host h) (pos last_member))
last_of_host host.Integer e = refl
last_of_host host.Char e = cc
last_of_host host.Boolean e = cc
last_of_host (host.Enumeration f) e = grind (arith, nat_tests)

least_ordinal : (h : Host) → IsTrue (is_ordinal (members_least h))
least_ordinal host.Integer = refl
least_ordinal host.Char = refl
least_ordinal host.Boolean = refl
least_ordinal (host.Enumeration e) = chosen (nat_le e.last last_member)
  where
    chosen : (c : Bool) → IsTrue (is_ordinal (if c then pos 0 else pos 0))
    chosen true = refl
    chosen false = refl

greatest_ordinal : (h : Host) → IsTrue (is_ordinal (members_greatest h))
greatest_ordinal host.Integer = refl
greatest_ordinal host.Char = refl
greatest_ordinal host.Boolean = refl
greatest_ordinal (host.Enumeration e) = chosen (nat_le e.last last_member) refl
  where
    chosen : (c : Bool) → nat_le e.last last_member ≡ c → IsTrue (is_ordinal (if c then pos e.last else pos last_member))
    chosen true is = grind (arith, nat_tests)
    chosen false is = refl

-- the members of a set may be members
few_between : (ms : List ℕ) → IsSet ms → are_between (pos 0) (pos last_member) ms ≡ true
few_between ms set =
    between_yes (pos 0) (pos last_member) ms (λ n is. elim (cases_lt n member_limit) [
      | inl less ↦ grind (arith, nat_tests, less)
      | inr past ↦ let missing : has n ms ≡ false = ap (has n) set ∙ has_no_more (λ k. has k ms) n past in cc
    ])

-- those of a set over the host are of that type
members_between : (h : Host) (ms : List ℕ) → IsSetOver (typed_host h) ms → IsTrue (are_between (members_least h) (members_greatest h) ms)
members_between h ms s = chosen (are_all_members h)
  where
    chosen : (c : Bool) → IsTrue (are_between (if c then least (typed_host h) else pos 0) (if c then greatest (typed_host h) else pos last_member) ms)
    chosen true = s.1
    chosen false = few_between ms s.0

module _ (u : TypedUnit) where
  -- the denoter of them has that type
  members_denote : (i : ℕ) (h : Host) → i ≤ length u.types → Lists u i h → Denotes u.types i (denoter_of (members_denoter h)) (typed_host h) (Ordinal (members_least h) (members_greatest h))
  members_denote i h le l = chosen (are_all_members h) refl
    where
      chosen : (c : Bool) → are_all_members h ≡ c
          → Denotes u.types i (denoter_of (if c then host_denoter h else denoter.Subrange (host_denoter h) (Fixed (pos 0)) (Fixed (pos last_member)))) (typed_host h)
          (Ordinal (if c then least (typed_host h) else pos 0) (if c then greatest (typed_host h) else pos last_member))
      chosen true is = host_denotes u i h l
      chosen false is =
          subst (λ d. Denotes u.types i d (typed_host h) (Ordinal (pos 0) (pos last_member))) (sym (subrange_is (host_denoter h) (Fixed (pos 0)) (Fixed (pos last_member))))
          (denotes_subrange u.types i (denoter_of (host_denoter h)) (typed_host h) (full_type (typed_host h)) (pos 0) (pos last_member) le (host_denotes u i h l) (lists_small u i h l) refl (first_of_host h is) (last_of_host h is))

  -- so a constant of sets over the host is valid
  set_denotes : (i : ℕ) (h : Host) → i ≤ length u.types → Lists u i h → DenotesSet u.types i (denoter_of (set_denoter h)) (typed_host h) (type.Set (members_least h) (members_greatest h))
  set_denotes i h le l =
      subst (λ d. DenotesSet u.types i d (typed_host h) (type.Set (members_least h) (members_greatest h))) (sym (set_is (members_denoter h)))
      (denotes_set u.types i (denoter_of (members_denoter h)) (typed_host h) (members_least h) (members_greatest h) le (members_denote i h le l) (least_ordinal h) (greatest_ordinal h))

  set_valid : (i : ℕ) (name : List ℕ) (h : Host) (ms : List ℕ) → i ≤ length u.types → Lists u i h → IsSetOver (typed_host h) ms → IsConstant u.types (record { name = name; denoter = set_denoter h; value = value.Set ms })
  set_valid i name h ms le l s = record {
    kind = kind_has_values u.types i (denoter_of (set_denoter h)) (kind.Set h) (type.Set (members_least h) (members_greatest h)) le (set_denotes i h le l);
    value =
        bare_takes u.types i (denoter_of (set_denoter h)) (type.Set (members_least h) (members_greatest h))
        (kind_bare u.types i (denoter_of (set_denoter h)) (kind.Set h) (type.Set (members_least h) (members_greatest h)) (set_denotes i h le l)) (value.Set ms) (s.0, members_between h ms s);
  }

  -- ---- arrays and records

  -- what is given to an array or a record lies in the types of its components
  abbrev pub Lies : Value → Type 0
  Lies (value.Word z) = ⊤
  Lies (value.Text bytes) = ⊤
  Lies (value.Set ms) = ⊤
  Lies (value.Structured of es) = (t : TypeValue) → IsStartFor u.types t (constant_expr (value.Structured of es)) → LiesIn t (constant_expr (value.Structured of es))

  -- its type is the one that it names
  type_named : (of : ℕ) (es : Elements) (t : TypeValue) → IsStartFor u.types t (tree.Structured of es) → (type_of u.types (tree.Named of []) ≡ Some t) × IsTyped u.types (tree.Named of []) t × IsStructured t
  type_named of es t (structured_start n v given has typed structured starts) = (has, typed, structured)

  structured_valid : (name : List ℕ) (of : ℕ) (es : List Element) (t : TypeValue) → IsStartFor u.types t (constant_expr (value.Structured of es)) → Lies (value.Structured of es)
      → IsConstant u.types (record { name = name; denoter = denoter.Named of []; value = value.Structured of es })
  structured_valid name of es t start lies = record { kind = record { kind = valid.Structured t; of_kind = (bare, its.2); denoter = record { type_value = t; has_type = has; typed = typed } }; value = (start, lies t start) }
    where
      its : (type_of u.types (tree.Named of []) ≡ Some t) × IsTyped u.types (tree.Named of []) t × IsStructured t
      its = type_named of (elements (map element_of es)) t start

      has : type_of u.types (denoter_of (denoter.Named of [])) ≡ Some t
      has = ap (type_of u.types) (named_is of []) ∙ its.0

      typed : IsTyped u.types (denoter_of (denoter.Named of [])) t
      typed = subst (λ d. IsTyped u.types d t) (sym (named_is of [])) its.1

      bare : bare_type_of u.types (denoter_of (denoter.Named of [])) ≡ Some t
      bare = ap (option_map bare_of) has ∙ ap Some (typed_bare u.types (tree.Named of []) t its.1)

  -- the list of constants with one of its kind, whose host is listed
  entry_holds : (i : ℕ) (name : List ℕ) (k : Kind) (v : Value) (all : List ConstantEntry) → i ≤ length u.types → IsConstantOf (type_values u) u.types k v → Lies v → ListsKind u i k → All (IsConstant u.types) all → All (IsConstant u.types) (with_entry name (entry_denoter k v) v all)
  entry_holds i name (kind.Ordinal h) (value.Word z) all le s lies l x = All-push (IsConstant u.types) all (record { name = name; denoter = host_denoter h; value = value.Word z }) x (constant_valid u i name h z le l s.1)
  entry_holds i name (kind.Ordinal h) (value.Text bytes) all le s lies l x = absurd s
  entry_holds i name (kind.Ordinal h) (value.Structured of es) all le s lies l x = absurd s
  entry_holds i name (kind.Ordinal h) (value.Set ms) all le s lies l x = absurd s
  entry_holds i name (kind.Set h) (value.Word z) all le s lies l x = absurd s
  entry_holds i name (kind.Set h) (value.Text bytes) all le s lies l x = absurd s
  entry_holds i name (kind.Set h) (value.Structured of es) all le s lies l x = absurd s
  entry_holds i name (kind.Set h) (value.Set ms) all le s lies l x = All-push (IsConstant u.types) all (record { name = name; denoter = set_denoter h; value = value.Set ms }) x (set_valid i name h ms le l s.1)
  entry_holds i name kind.EmptySet (value.Word z) all le s lies l x = absurd s
  entry_holds i name kind.EmptySet (value.Text bytes) all le s lies l x = absurd s
  entry_holds i name kind.EmptySet (value.Structured of es) all le s lies l x = absurd s
  entry_holds i name kind.EmptySet (value.Set ms) all le s lies l x = All-push (IsConstant u.types) all (record { name = name; denoter = set_denoter host.Integer; value = value.Set ms }) x (set_valid i name host.Integer ms le tt (s typed.Integer))
  entry_holds i name (kind.Structured n) (value.Word z) all le s lies l x = absurd s
  entry_holds i name (kind.Structured n) (value.Text bytes) all le s lies l x = absurd s
  entry_holds i name (kind.Structured n) (value.Set ms) all le s lies l x = absurd s
  entry_holds i name (kind.Structured n) (value.Structured of es) all le s lies l x = All-push (IsConstant u.types) all (record { name = name; denoter = denoter.Named of []; value = value.Structured of es }) x (structured_valid name of es s.0 s.2 lies)
  entry_holds i name kind.Text v all le s lies l x = x
  entry_holds i name kind.File v all le s lies l x = x

  -- so the block with it is held
  constant_holds : (i : ℕ) (name : List ℕ) (k : Kind) (v : Value) (deep : ℕ) (b : Block) → i ≤ length u.types → IsConstantOf (type_values u) u.types k v → Lies v → ListsKind u i k → Holds u i b → Holds u i (with_constant name k v deep b)
  constant_holds i name k v deep b le s lies l x =
      named_holds u i name (own_thing b (length b.constants) (declaration.Constant k v deep)) (record b { constants = with_entry name (entry_denoter k v) v b.constants }) (x.unit, (s, l)) (record {
        unit = x.unit;
        names = x.names;
        lists = record { types = x.types; constants = entry_holds i name k v b.constants le s lies l x.constants; variables = x.variables };
        under_way = x.under_way;
        routines = x.routines;
      })

  -- ---- constant definitions

  built_constant : (k : Kind) (built : Bool) (v : Value) → built ≡ true → IsConstantIf built (type_values u) u.types k v → IsConstantOf (type_values u) u.types k v
  built_constant (kind.Structured n) built v is c = c is
  built_constant (kind.Ordinal h) built v is c = c
  built_constant (kind.Set h) built v is c = c
  built_constant kind.EmptySet built v is c = c
  built_constant kind.Text built v is c = c
  built_constant kind.File built v is c = c

  -- what was found to fit lies in its type
  found_lies : (i : ℕ) (b : Block) (v : Value) → IsOpen b → i ≤ length u.types → IsPrefix b.types u.types → Holds u i b → fits b.types (scopes_of b) v ≡ true → Lies v
  found_lies i b (value.Word z) under le front x e = tt
  found_lies i b (value.Text bytes) under le front x e = tt
  found_lies i b (value.Set ms) under le front x e = tt
  found_lies i b (value.Structured of es) under le front x e = λ t start. value_lies (within u b.own.enclosing) (structures_of (scopes_of b)) (depth_in (scopes_of b)) (scopes_of b) (block_agrees u i b under le x) b.types of es t front start e

  definition_leads : (d : ConstantDefinition) (form : ConstantForm) (b : Block) → ConstantsAreSound → ConstantsAreKnown → constant_judged (scopes_of b) d.value ≡ Accepts form → fits b.types (scopes_of b) form.value ≡ true → form.built ≡ true
      → Leads u b (with_constant d.name form.kind form.value form.depth b)
  definition_leads d form b sound known e inside is = record {
    grows = constant_grows d.name form.kind form.value form.depth b;
    holds = λ under ext w x.
        let i : ℕ = length b.types in
        let le : i ≤ length u.types = prefix_length b.types u.types ext.types in
        constant_holds i d.name form.kind form.value form.depth b le
        (built_constant form.kind form.built form.value is (sound (scopes_of b) d.value form e (within u b.own.enclosing) (type_values u) (holds_agrees u i b under le x).1))
        (found_lies i b form.value under le ext.types x inside)
        (known_listed u i b form.kind x (known (scopes_of b) d.value form e)) x;
  }

  -- what lies in its type is what was judged
  abbrev WasJudged : ComponentValue → Block → ConstantForm → Type 0
  WasJudged v b form = (constant_judged (scopes_of b) v ≡ Accepts form) × (fits b.types (scopes_of b) form.value ≡ true)

  inside_judged : (v : ComponentValue) (b : Block) (t : Bool) (c : ConstantForm) → fits b.types (scopes_of b) c.value ≡ t → constant_judged (scopes_of b) v ≡ Accepts c → Fits (WasJudged v b) (if t then Accepts c else Breaks (rule.CONSTANT ∷ []))
  inside_judged v b true c inside e = (e, inside)
  inside_judged v b false c inside e = tt

  fitting_accepted : (v : ComponentValue) (b : Block) → Fits (WasJudged v b) (constant_fitting v b)
  fitting_accepted v b =
      fits_then (λ c. constant_judged (scopes_of b) v ≡ Accepts c) (WasJudged v b) (unless_outside b.types (scopes_of b)) (constant_judged (scopes_of b) v) (fits_is (constant_judged (scopes_of b) v)) (λ c e. inside_judged v b (fits b.types (scopes_of b) c.value) c refl e)

  pub constant_definition-leads : ConstantsAreSound → ConstantsAreKnown → (d : ConstantDefinition) (b : Block) → Fits (Leads u b) (constant_definition d b)
  constant_definition-leads sound known d b =
      fits_both (WasJudged d.value b) Any (Leads u b) _ (constant_fitting d.value b) (unused d.name b) (fitting_accepted d.value b) (fits_any (unused d.name b))
      (λ form new e k. noted_leads u form.built d.line b (with_constant d.name form.kind form.value form.depth b) (λ is. definition_leads d form b sound known e.0 e.1 is) (constant_grows d.name form.kind form.value form.depth b))

  -- ---- the constants of an enumeration

  enumerated_ordinal : (e : Enumeration) (ordinal : ℕ) → ordinal ≤ e.last → IsTrue (is_of_host (typed.Enumeration e.last) (pos ordinal))
  enumerated_ordinal e ordinal le = grind (arith, nat_tests)

  -- the enumeration is listed among so many types
  abbrev pub ListsWithin : ℕ → Enumeration → Type 0
  ListsWithin i e = (i ≤ length u.types) × Lists u i (host.Enumeration e)

  constant_enters : (i : ℕ) (e : Enumeration) (ordinal : ℕ) (name : List ℕ) (b : Block) → ordinal ≤ e.last → Fits (Enters u (ListsWithin i e) i b) (constant_entered name (kind.Ordinal (host.Enumeration e)) (value.Word (pos ordinal)) 1 b)
  constant_enters i e ordinal name b le =
      fits_then Any (Enters u (ListsWithin i e) i b) (λ _. Accepts (with_constant name (kind.Ordinal (host.Enumeration e)) (value.Word (pos ordinal)) 1 b)) (unused name b) (fits_any (unused name b))
      (λ a k. record {
        grows = constant_grows name (kind.Ordinal (host.Enumeration e)) (value.Word (pos ordinal)) 1 b;
        same = refl;
        holds = λ p under ext x. constant_holds i name (kind.Ordinal (host.Enumeration e)) (value.Word (pos ordinal)) 1 b p.0 (lists_small u i (host.Enumeration e) p.1, enumerated_ordinal e ordinal le) tt p.1 x;
      })

  pub enumerated_enters : (i : ℕ) (e : Enumeration) (ordinal : ℕ) (names : List (List ℕ)) (b : Block) → ordinal + length names ≤ suc e.last → Fits (Enters u (ListsWithin i e) i b) (enumerated (host.Enumeration e) ordinal names b)
  enumerated_enters i e ordinal [] b le = enters_refl u (ListsWithin i e) i b
  enumerated_enters i e ordinal (name ∷ names) b le =
      enters_then u (ListsWithin i e) i b (enumerated (host.Enumeration e) (suc ordinal) names) (constant_entered name (kind.Ordinal (host.Enumeration e)) (value.Word (pos ordinal)) 1 b)
      (constant_enters i e ordinal name b (omega (arith, le)))
      (λ c. enumerated_enters i e (suc ordinal) names c (omega (arith, le)))

-- as many constants more as names
pub enumerated_counts : (e : Enumeration) (ordinal : ℕ) (names : List (List ℕ)) (b : Block) → Fits (λ c. length c.constants ≡ length b.constants + length names) (enumerated (host.Enumeration e) ordinal names b)
enumerated_counts e ordinal [] b = omega arith
enumerated_counts e ordinal (name ∷ names) b =
    fits_then (λ c. length c.constants ≡ suc (length b.constants)) (λ c. length c.constants ≡ length b.constants + suc (length names)) (enumerated (host.Enumeration e) (suc ordinal) names) (constant_entered name (kind.Ordinal (host.Enumeration e)) (value.Word (pos ordinal)) 1 b)
    (fits_then Any (λ c. length c.constants ≡ suc (length b.constants)) (λ _. Accepts (with_constant name (kind.Ordinal (host.Enumeration e)) (value.Word (pos ordinal)) 1 b)) (unused name b) (fits_any (unused name b)) (λ a k. length_push b.constants _))
    (λ c one. counted c one (enumerated (host.Enumeration e) (suc ordinal) names c) (enumerated_counts e (suc ordinal) names c))
  where
    counted : (c : Block) → length c.constants ≡ suc (length b.constants) → (j : Judged Block) → Fits (λ d. length d.constants ≡ length c.constants + length names) j → Fits (λ d. length d.constants ≡ length b.constants + suc (length names)) j
    counted c one (Accepts d) h = omega (arith, one, h)
    counted c one (Breaks rules) h = tt
