-- Types that are written in a block have denoters that are valid in the unit that has its lists.
use Rattle.std.proofs.Common.{◌≡◌, ℕ, suc, ◌≤◌, ◌+◌, Bool, true, false, ◌&&◌, List, [], ◌∷◌, ◌++◌, length, Option, Some, None, slice_get, IsTrue, refl, sym, ap, subst, arith}
use Rattle.std.proofs.lemmas.Bool.Decides.{nat_tests}
use Rattle.std.proofs.lemmas.List.Elements.{All-push}
use Rattle.std.proofs.lemmas.Option.{slice_get_within}
use Rattle.std.specs.Prelude.{int_le, if◌then◌else◌}
use Rattle.ep_tree.specs.declared.expression.Expression.{Expression}
use Rattle.ep_typed.specs.Denoters.{definition_of}
use Rattle.ep_typed.specs.Hosts as typed
use Rattle.ep_typed.specs.Hosts.{is_of_host}
use Rattle.ep_values.specs.Operations.{maxint}
use Rattle.ep_typed.specs.Trees as tree
use Rattle.ep_meaning.specs.Valid.{IsType}
use Rattle.ep_typed.specs.Viewed.{denoter_of}
use Rattle.ep_typed.specs.declared.denoter.Bound.TheVariants.{Constant as Fixed}
use Rattle.ep_typed.specs.declared.denoter.Denoter.{Denoter}
use Rattle.ep_typed.specs.declared.denoter.Denoter.TheVariants as denoter
use Rattle.ep_typed.specs.declared.denoter.RequiredType.{RequiredType}
use Rattle.ep_typed.specs.declared.denoter.RequiredType.TheVariants as simple
use Rattle.ep_typed.specs.declared.unit.Unit.{Unit as TypedUnit}
use Rattle.ep_typed.specs.declared.unit.UnitType.{UnitType}
use Rattle.ep_values.specs.TypeValues.{TypeValue}
use Rattle.ep_values.specs.TypeValues.{Ordinal as Range}
use Rattle.ep_typed.specs.declared.value.Value.{Value}
use Rattle.ep_typed.specs.declared.value.Value.TheVariants as value
use Rattle.ep_scope.specs.Kinds.{same_host}
use Rattle.ep_scope.specs.Scopes.{Meant, Declares, Standard, Requires, FieldOf, Nothing, meant, meant_in}
use Rattle.ep_scope.specs.declared.kind.Enumeration.{Enumeration}
use Rattle.ep_scope.specs.declared.kind.Host.{Host}
use Rattle.ep_scope.specs.declared.kind.Host.TheVariants as host
use Rattle.ep_scope.specs.declared.parameter.TypeName.TheVariants as type_name
use Rattle.ep_scope.specs.declared.kind.Kind.{Kind}
use Rattle.ep_scope.specs.declared.kind.Kind.TheVariants as kind
use Rattle.ep_scope.specs.declared.required.Required.TheVariants as required
use Rattle.ep_scope.specs.declared.rule.TheConstants as rule
use Rattle.ep_scope.specs.declared.thing.Declaration.{Declaration}
use Rattle.ep_scope.specs.declared.thing.Declaration.TheVariants as declaration
use Rattle.ep_scope.specs.declared.thing.Declared.{Declared}
use Rattle.ep_expr_laws.specs.Agreement.{IsConstantIf, IsConstantOf}
use Rattle.ep_check_expr.specs.Constants.{bound_judged}
use Rattle.ep_rules.specs.Hosts.{typed_host}
use Rattle.ep_rules.specs.Judgements.{Accepts, Breaks}
use Rattle.ep_expr_laws.specs.Laws.{BoundsAreSound, BoundsAreKnown}
use Rattle.ep_rules.specs.Names.{undeclared}
use Rattle.ep_check_expr.specs.declared.constants.ConstantForm.{ConstantForm}
use Rattle.ep_expr_laws.proofs.public.SameHost.{host_same}
use Rattle.ep_stmt_rules.proofs.public.judged.Fits.{Fits, fits_is, fits_pair, fits_then}
use Rattle.ep_unit_rules.specs.Types.{subrange_nodes, common_host, host_denoter, number_in, ordered, required_host, subrange_denoter, type_denoter}
use Rattle.ep_check_unit.specs.Declarations.{Written, declared_type, enumerated, enumeration, next_enumeration, next_type, noted, range, scopes_of, subrange, type_meant, type_named, with_type, written_type}
use Rattle.ep_check_unit.specs.Blocks.{Block}
use Rattle.ep_unit_laws.proofs.Constants.{ListsWithin, enumerated_counts, enumerated_enters}
use Rattle.ep_unit_laws.proofs.Denoting.{Denotes, DenotesKind, IsSmall, denotes_enumeration, denotes_more, denotes_required, denotes_subrange, full_type, kind_more, kind_named, kind_valid}
use Rattle.ep_unit_laws.proofs.Agreeing.{holds_agrees, within}
use Rattle.ep_typed.proofs.public.Forms.{enumeration_is, named_is, subrange_is}
use Rattle.ep_unit_laws.proofs.Holds.{HasKindHere, HasTypeHere, Holds, HoldsDeclaration, Lists, ListsEnumeration, ListsKind, holds_more, host_denotes, known_listed, lists_kind_more, lists_more, lists_small, named_tree, required_lists, type_values}
use Rattle.ep_unit_laws.proofs.Open.{IsOpen}
use Rattle.ep_unit_laws.proofs.Leading.{Extends, Enters, Grows, extends_before, grown, grows_refl, grows_trans, noted_grows, stays, waits_some}
use Rattle.ep_unit_laws.proofs.Prefixes.{length_push, prefix_last, prefix_length, prefix_more}
use Rattle.ep_unit_laws.proofs.Meant.{HoldsMeant, meant_holds, meant_in_holds}

-- the entry of a type that is added
abbrev pub new_entry : Option (List ℕ) → ℕ → Denoter → Block → UnitType
new_entry name line d b = record { entry = record { «module» = b.unit; number = length b.types; name = name; formals = []; denoter = d }; line = Some line }

module _ (u : TypedUnit) where
  -- ---- types by their names

  -- The type has a name that is there already, and nothing is declared with it.
  pub record Names (b : Block) (w : Written) : Type 0 where
    pub same : w.block ≡ b
    pub named : w.denoter ≡ type_denoter (written_type w).name
    pub holds : (i : ℕ) → Holds u i b → HasTypeHere u i (denoter_of w.denoter) w.of w.kind × ListsKind u i w.kind

  required_typed : (i : ℕ) (r : RequiredType) (h : Host) → Denotes u.types 0 (tree.Required r) (typed_host h) (full_type (typed_host h)) → HasTypeHere u i (denoter_of (denoter.Required r)) (type_name.Required r) (kind.Ordinal h)
  required_typed i r h d = (full_type (typed_host h), required_lists u i r (typed_host h) d, denotes_more u.types 0 i (tree.Required r) (typed_host h) (full_type (typed_host h)) (omega arith) d)

  required_names : (i : ℕ) (r : RequiredType) → HasTypeHere u i (denoter_of (denoter.Required r)) (type_name.Required r) (kind.Ordinal (required_host r)) × Lists u i (required_host r)
  required_names i simple.Integer = (required_typed i simple.Integer host.Integer (denotes_required u.types simple.Integer), tt)
  required_names i simple.Char = (required_typed i simple.Char host.Char (denotes_required u.types simple.Char), tt)
  required_names i simple.Boolean = (required_typed i simple.Boolean host.Boolean (denotes_required u.types simple.Boolean), tt)

  -- what is meant is held wherever the block is
  abbrev HeldThroughout : Block → Meant → Type 0
  HeldThroughout b m = (i : ℕ) → Holds u i b → HoldsMeant u b.own.enclosing i m

  declared_names : (d : Declared) (what : Declaration) (b : Block) → ((i : ℕ) → Holds u i b → HoldsDeclaration u b.own.enclosing i d what) → Fits (Names b) (declared_type d what b)
  declared_names d (declaration.«Type» of k nodes) b held = record {
    same = refl;
    named = refl;
    holds = λ i x.
        let t = held i x in
        ((t.denotes.0, subst (λ n. DenotesKind u.types i n k t.denotes.0) (sym (named_is d.number [])) t.denotes.1, t.denotes.2), t.lists);
  }
  declared_names d (declaration.Constant k v deep) b held = tt
  declared_names d (declaration.Variable of k guarded) b held = tt
  declared_names d (declaration.Own of k guarded) b held = tt
  declared_names d (declaration.Procedure ps) b held = tt
  declared_names d (declaration.Function ps of h) b held = tt

  meant_names : (missing : List ℕ) (m : Meant) (b : Block) → HeldThroughout b m → Fits (Names b) (type_meant missing m b)
  meant_names missing (Declares d) b held = declared_names d d.what b (λ i x. (held i x).1)
  meant_names missing (Standard file) b held = tt
  meant_names missing (FieldOf f) b held = tt
  meant_names missing (Requires (required.Constant c)) b held = tt
  meant_names missing (Requires (required.«Type» r)) b held = record { same = refl; named = refl; holds = λ i x. required_names i r }
  meant_names missing (Requires (required.Function f)) b held = tt
  meant_names missing (Requires (required.Procedure p)) b held = tt
  meant_names missing Nothing b held = tt

  pub type_named-names : (name : List ℕ) (second : Option (List ℕ)) (b : Block) → Fits (Names b) (type_named name second b)
  type_named-names name None b = meant_names (undeclared name) (meant (scopes_of b) name) b (λ i x. meant_holds u i b name x)
  type_named-names interface (Some name) b = meant_names (rule.UNDECLARED ∷ []) (meant_in (scopes_of b) interface name) b (λ i x. meant_in_holds u i b interface name x)

  -- ---- types that are written

  -- the unit has the denoter as the type after so many
  pub record IsNext (i : ℕ) (d : tree.Denoter) : Type 0 where
    pub entry : UnitType
    pub at : slice_get u.types i ≡ Some entry
    pub definition : definition_of entry ≡ d

  -- what the unit holds then
  pub record Wrote (i : ℕ) (w : Written) : Type 0 where
    pub block : Holds u (suc i) w.block
    pub denotes : HasKindHere u i (denoter_of w.denoter) w.kind
    -- the type has a type value of the same bare form
    pub of : DenotesKind u.types (suc i) (named_tree w.of) w.kind denotes.0
    pub lists : ListsKind u (suc i) w.kind

  -- The type is written, and becomes an entry behind those that its parts have become.
  pub record Writes (b : Block) (w : Written) : Type 0 where
    pub grows : Grows b w.block
    pub holds : IsOpen b → Extends u w.block → w.block.waits ≡ None → IsNext (length w.block.types) (denoter_of w.denoter) → Holds u (length b.types) b → Wrote (length w.block.types) w

  pub named_writes : (b : Block) (w : Written) → Names b w → Writes b w
  named_writes b w n = record {
    grows = subst (Grows b) (sym n.same) (grows_refl b);
    holds = λ under e free next x.
        let i : ℕ = length w.block.types in
        let there : Holds u i b = subst (λ c. Holds u (length c.types) b) (sym n.same) x in
        let y = n.holds i there in
        record {
          block = subst (Holds u (suc i)) (sym n.same) (holds_more u i (suc i) b (omega arith) there);
          denotes = (y.0.0, y.0.1);
          of = kind_more u.types i (suc i) (named_tree w.of) w.kind y.0.0 (omega arith) y.0.2;
          lists = lists_kind_more u i (suc i) w.kind (omega arith) y.1;
        };
  }

  -- the next type has the type value of the denoter that becomes its entry
  pub next_denotes : (i : ℕ) (d : tree.Denoter) (k : Kind) (v : TypeValue) → IsNext i d → DenotesKind u.types i d k v → DenotesKind u.types (suc i) (tree.Named i []) k v
  next_denotes i d k v next x = kind_named u.types i i next.entry k v next.at (subst (λ e. DenotesKind u.types i e k v) (sym next.definition) x)

  -- ---- types that stand

  -- what the unit holds of a type that stands
  pub record Stood (w : Written) : Type 0 where
    pub block : Holds u (length w.block.types) w.block
    pub denotes : HasTypeHere u (length w.block.types) (denoter_of w.denoter) w.of w.kind
    pub lists : ListsKind u (length w.block.types) w.kind

  -- The type stands, with an entry where it needed one.
  pub record Settles (b : Block) (w : Written) : Type 0 where
    pub grows : Grows b w.block
    pub holds : IsOpen b → Extends u w.block → w.block.waits ≡ None → Holds u (length b.types) b → Stood w

  pub named_settles : (b : Block) (w : Written) → Names b w → Settles b w
  named_settles b w n = record {
    grows = subst (Grows b) (sym n.same) (grows_refl b);
    holds = λ under e free x.
        let y = n.holds (length b.types) x in
        record {
          block = subst (λ c. Holds u (length c.types) c) (sym n.same) x;
          denotes = subst (λ c. HasTypeHere u (length c.types) (denoter_of w.denoter) w.of w.kind) (sym n.same) y.0;
          lists = subst (λ c. ListsKind u (length c.types) w.kind) (sym n.same) y.1;
        };
  }

  -- the type that was written, with its entry
  abbrev with_entry_of : Option (List ℕ) → ℕ → Written → Written
  with_entry_of name line w = record { denoter = denoter.Named (length w.block.types) []; of = w.of; kind = w.kind; nodes = w.nodes; block = with_type name line w.denoter w.block }

  type_grows : (name : Option (List ℕ)) (line : ℕ) (d : Denoter) (b : Block) → Grows b (with_type name line d b)
  type_grows name line d b = grown b (record (stays b) { to = with_type name line d b; types = prefix_more b.types _ })

  pub written_settles : (name : Option (List ℕ)) (line : ℕ) (b : Block) (w : Written) → Writes b w → Settles b (with_entry_of name line w)
  written_settles name line b w wr = record {
    grows = grows_trans b w.block (with_type name line w.denoter w.block) wr.grows (type_grows name line w.denoter w.block);
    holds = λ under ext free x.
        let i : ℕ = length w.block.types in
        let entry = new_entry name line w.denoter w.block in
        let at = prefix_last w.block.types entry u.types ext.types in
        let total : length (w.block.types ++ entry ∷ []) ≡ suc i = length_push w.block.types entry in
        let le : suc i ≤ length u.types = subst (λ n. n ≤ length u.types) total (prefix_length (w.block.types ++ entry ∷ []) u.types ext.types) in
        let next : IsNext i (denoter_of w.denoter) = record { entry = entry; at = at; definition = refl } in
        let y = wr.holds under (extends_before u w.block (with_type name line w.denoter w.block) (type_grows name line w.denoter w.block) (wr.grows.opens under) ext) free next x in
        let held : Holds u (suc i) (with_type name line w.denoter w.block) = record {
          unit = y.block.unit;
          names = y.block.names;
          lists = record {
            types = All-push (IsType u.types) w.block.types entry y.block.types (record { formals = refl; denoter = kind_valid u.types i (denoter_of w.denoter) w.kind y.denotes.0 (omega (arith, le)) y.denotes.1 });
            constants = y.block.constants;
            variables = y.block.variables;
          };
          under_way = y.block.under_way;
          routines = y.block.routines;
        } in
        let named : DenotesKind u.types (suc i) (denoter_of (denoter.Named i [])) w.kind y.denotes.0 =
        subst (λ d. DenotesKind u.types (suc i) d w.kind y.denotes.0) (sym (named_is i [])) (kind_named u.types i i entry w.kind y.denotes.0 at y.denotes.1) in
        record {
          block = subst (λ n. Holds u n (with_type name line w.denoter w.block)) (sym total) held;
          denotes = subst (λ n. HasTypeHere u n (denoter_of (denoter.Named i [])) w.of w.kind) (sym total) (y.denotes.0, named, y.of);
          lists = subst (λ n. ListsKind u n w.kind) (sym total) y.lists;
        };
  }

  -- ---- subranges

  -- two bounds of one host
  record OneHost (k l : Kind) (h : Host) : Type 0 where
    left : k ≡ kind.Ordinal h
    other : Host
    right : l ≡ kind.Ordinal other
    alike : same_host h other ≡ true

  one_host-if : (b : Bool) (g k h : Host) → same_host g k ≡ b → (if b then Accepts g else Breaks (rule.HOSTS ∷ [])) ≡ Accepts h → OneHost (kind.Ordinal g) (kind.Ordinal k) h
  one_host-if true g k h e f =
      let is : g ≡ h = cc in
      record { left = ap kind.Ordinal is; other = k; right = refl; alike = subst (λ x. same_host x k ≡ true) is e }
  one_host-if false g k h e f = cc

  one_host : (k l : Kind) (h : Host) → common_host k l ≡ Accepts h → OneHost k l h
  one_host (kind.Ordinal g) (kind.Ordinal k) h e = one_host-if (same_host g k) g k h refl e
  one_host (kind.Ordinal g) (kind.Structured n) h e = cc
  one_host (kind.Ordinal g) (kind.Set base) h e = cc
  one_host (kind.Ordinal g) kind.EmptySet h e = cc
  one_host (kind.Ordinal g) kind.Text h e = cc
  one_host (kind.Ordinal g) kind.File h e = cc
  one_host (kind.Structured n) l h e = cc
  one_host (kind.Set base) l h e = cc
  one_host kind.EmptySet l h e = cc
  one_host kind.Text l h e = cc
  one_host kind.File l h e = cc

  -- a bound is of its host
  bound_of_host : (h : Host) (v : Value) → IsConstantOf (type_values u) u.types (kind.Ordinal h) v → IsTrue (is_of_host (typed_host h) (number_in v))
  bound_of_host h (value.Word z) s = s.1
  bound_of_host h (value.Text bytes) s = absurd s
  bound_of_host h (value.Set members) s = absurd s
  bound_of_host h (value.Structured of es) s = absurd s

  ordered_if : (b : Bool) (a : Unit {0}) → (if b then Accepts tt else Breaks (rule.EMPTY_RANGE ∷ [])) ≡ Accepts a → b ≡ true
  ordered_if true a e = refl
  ordered_if false a e = cc

  in_order : (built : Bool) (low high : ConstantForm) → built ≡ true → (if built then int_le (number_in low.value) (number_in high.value) else true) ≡ true → IsTrue (int_le (number_in low.value) (number_in high.value))
  in_order true low high e f = f
  in_order false low high e f = cc

  -- what is known of the bounds
  record AreBounds (b : Block) (h : Host) (low high : ConstantForm) : Type 0 where
    hosts : OneHost low.kind high.kind h
    order : (built : Bool) → (low.built && high.built) ≡ built → built ≡ true → IsTrue (int_le (number_in low.value) (number_in high.value))
    lists : (i : ℕ) → Holds u i b → Lists u i h
    low_is : IsOpen b → (i : ℕ) → i ≤ length u.types → Holds u i b → IsTrue (is_of_host (typed_host h) (number_in low.value))
    high_is : IsOpen b → (i : ℕ) → i ≤ length u.types → Holds u i b → IsTrue (is_of_host (typed_host h) (number_in high.value))

  range_denotes : (i : ℕ) (h : Host) (low high : ConstantForm) → i ≤ length u.types → Lists u i h → IsTrue (int_le (number_in low.value) (number_in high.value)) → IsTrue (is_of_host (typed_host h) (number_in low.value)) → IsTrue (is_of_host (typed_host h) (number_in high.value))
      → HasKindHere u i (denoter_of (subrange_denoter h low high)) (kind.Ordinal h)
  range_denotes i h low high le l order lo hi = (
    Range (number_in low.value) (number_in high.value),
    subst (λ d. Denotes u.types i d (typed_host h) (Range (number_in low.value) (number_in high.value))) (sym (subrange_is (host_denoter h) (Fixed (number_in low.value)) (Fixed (number_in high.value))))
        (denotes_subrange u.types i (denoter_of (host_denoter h)) (typed_host h) (full_type (typed_host h)) (number_in low.value) (number_in high.value) le (host_denotes u i h l) (lists_small u i h l) order lo hi),
  )

  subrange_writes : (built : Bool) (line : ℕ) (h : Host) (low high : ConstantForm) (b : Block) → (low.built && high.built) ≡ built → AreBounds b h low high → Writes b (record { denoter = subrange_denoter h low high; of = next_type b; kind = kind.Ordinal h; nodes = subrange_nodes; block = noted built line b })
  subrange_writes true line h low high b e k = record {
    grows = grows_refl b;
    holds = λ under ext free next x.
        let i : ℕ = length b.types in
        let le : i ≤ length u.types = prefix_length b.types u.types ext.types in
        let range = range_denotes i h low high le (k.lists i x) (k.order true e refl) (k.low_is under i le x) (k.high_is under i le x) in
        record {
          block = holds_more u i (suc i) b (omega arith) x;
          denotes = range;
          of = next_denotes i (denoter_of (subrange_denoter h low high)) (kind.Ordinal h) range.0 next range.1;
          lists = lists_more u i (suc i) h (omega arith) (k.lists i x);
        };
  }
  subrange_writes false line h low high b e k = record {
    grows = noted_grows false line b;
    holds = λ under ext free next x. absurd (waits_some b.waits line free);
  }

  ordinal_constant : (built : Bool) (k : Kind) (h : Host) (v : Value) → k ≡ kind.Ordinal h → IsConstantIf built (type_values u) u.types k v → IsConstantOf (type_values u) u.types (kind.Ordinal h) v
  ordinal_constant built k h v e s = subst (λ x. IsConstantIf built (type_values u) u.types x v) e s

  range_bounds : BoundsAreSound → BoundsAreKnown → (b : Block) (first second : Expression) (low high : ConstantForm) (h : Host) (a : Unit {0}) → bound_judged (scopes_of b) first ≡ Accepts low → bound_judged (scopes_of b) second ≡ Accepts high
      → common_host low.kind high.kind ≡ Accepts h → ordered low high ≡ Accepts a → AreBounds b h low high
  range_bounds sound known b first second low high h a e f c ordering =
      let hosts = one_host low.kind high.kind h c in
      record {
        hosts = hosts;
        order = λ built is yes. in_order built low high yes (subst (λ x. (if x then int_le (number_in low.value) (number_in high.value) else true) ≡ true) is (ordered_if _ a ordering));
        lists = λ i x. subst (ListsKind u i) hosts.left (known_listed u i b low.kind x (known (scopes_of b) first low e));
        low_is = λ under i le x. bound_of_host h low.value (ordinal_constant low.built low.kind h low.value hosts.left (sound (scopes_of b) first low e (within u b.own.enclosing) (type_values u) (holds_agrees u i b under le x).1));
        high_is = λ under i le x.
            subst (λ g. IsTrue (is_of_host g (number_in high.value))) (host_same h hosts.other hosts.alike)
            (bound_of_host hosts.other high.value (ordinal_constant high.built high.kind hosts.other high.value hosts.right (sound (scopes_of b) second high f (within u b.own.enclosing) (type_values u) (holds_agrees u i b under le x).1)));
      }

  pub range_writes : BoundsAreSound → BoundsAreKnown → (line : ℕ) (b : Block) (first second : Expression) (low high : ConstantForm) → bound_judged (scopes_of b) first ≡ Accepts low → bound_judged (scopes_of b) second ≡ Accepts high → Fits (Writes b) (range line b low high)
  range_writes sound known line b first second low high e f =
      fits_then (λ h. common_host low.kind high.kind ≡ Accepts h) (Writes b) _ (common_host low.kind high.kind) (fits_is (common_host low.kind high.kind))
      (λ h c. fits_then (λ a. ordered low high ≡ Accepts a) (Writes b) (λ _. Accepts (subrange line h low high b)) (ordered low high) (fits_is (ordered low high))
      (λ a o. subrange_writes (low.built && high.built) line h low high b refl (range_bounds sound known b first second low high h a e f c o)))

  -- ---- enumerations

  few_constants : (n m k last : ℕ) → n ≡ m + suc last → n ≤ k → k ≤ maxint → IsSmall (typed.Enumeration last)
  few_constants n m k last e le few = grind (arith, nat_tests)

  enumeration_writes : length u.constants ≤ maxint → (first : List ℕ) (others : List (List ℕ)) (b c : Block)
      → Enters u (ListsWithin u (suc (length b.types)) (record { number = length b.types; last = length others })) (suc (length b.types)) b c → length c.constants ≡ length b.constants + suc (length others)
      → Writes b (record { denoter = denoter.Enumeration (first ∷ others); of = next_type b; kind = kind.Ordinal (next_enumeration (length others) b); nodes = 1; block = c })
  enumeration_writes few first others b c enters counts = record {
    grows = enters.grows;
    holds = λ under ext free there x.
        let i : ℕ = length b.types in
        let count : length c.types ≡ i = ap length enters.same in
        let next : IsNext i (denoter_of (denoter.Enumeration (first ∷ others))) = subst (λ n. IsNext n (denoter_of (denoter.Enumeration (first ∷ others)))) count there in
        let small = few_constants (length c.constants) (length b.constants) (length u.constants) (length others) counts (prefix_length c.constants u.constants ext.constants) few in
        let le : suc i ≤ length u.types = omega (arith, slice_get_within u.types i next.entry next.at) in
        let denotes : Denotes u.types i (denoter_of (denoter.Enumeration (first ∷ others))) (typed.Enumeration (length others)) (full_type (typed.Enumeration (length others))) =
        subst (λ d. Denotes u.types i d (typed.Enumeration (length others)) (full_type (typed.Enumeration (length others)))) (sym (enumeration_is (first ∷ others)))
        (denotes_more u.types 0 i (tree.Enumeration (first ∷ others)) (typed.Enumeration (length others)) (full_type (typed.Enumeration (length others))) (omega arith) (denotes_enumeration u.types first others small)) in
        let named = next_denotes i (denoter_of (denoter.Enumeration (first ∷ others))) (kind.Ordinal (next_enumeration (length others) b)) (full_type (typed.Enumeration (length others))) next denotes in
        let listed : ListsEnumeration u (suc i) (record { number = i; last = length others }) = record { denotes = named; small = small } in
        let wrote : Wrote i (record { denoter = denoter.Enumeration (first ∷ others); of = next_type b; kind = kind.Ordinal (next_enumeration (length others) b); nodes = 1; block = c }) = record {
          block = enters.holds (le, listed) under ext (holds_more u i (suc i) b (omega arith) x);
          denotes = (full_type (typed.Enumeration (length others)), denotes);
          of = named;
          lists = listed;
        } in
        subst (λ n. Wrote n (record { denoter = denoter.Enumeration (first ∷ others); of = next_type b; kind = kind.Ordinal (next_enumeration (length others) b); nodes = 1; block = c })) (sym count) wrote;
  }

  pub enumeration-writes : length u.constants ≤ maxint → (names : List (List ℕ)) (b : Block) → Fits (Writes b) (enumeration names b)
  enumeration-writes few [] b = tt
  enumeration-writes few (first ∷ others) b =
      let e : Enumeration = record { number = length b.types; last = length others } in
      let entered = enumerated (host.Enumeration e) 0 (first ∷ others) b in
      fits_then (λ c. Enters u (ListsWithin u (suc (length b.types)) e) (suc (length b.types)) b c × (length c.constants ≡ length b.constants + suc (length others))) (Writes b) _ entered
      (fits_pair (Enters u (ListsWithin u (suc (length b.types)) e) (suc (length b.types)) b) (λ c. length c.constants ≡ length b.constants + suc (length others)) entered (enumerated_enters u (suc (length b.types)) e 0 (first ∷ others) b (omega arith)) (enumerated_counts e 0 (first ∷ others) b))
      (λ c p. enumeration_writes few first others b c p.0 p.1)
