-- Types with initial states that are written in a block: the unit that has the block's lists has them as valid types.
use Rattle.std.proofs.Common.{◌≡◌, ℕ, ℤ, zero, suc, ◌<◌, ◌≤◌, Bool, true, false, IsTrue, List, [], ◌∷◌, length, Some, refl, sym, ap, ◌∙◌, subst, arith}
use Rattle.std.proofs.lemmas.Bool.Decides.{nat_tests}
use Rattle.std.proofs.lemmas.Option.{same_Some}
use Rattle.std.specs.Prelude.{if◌then◌else◌, nat_eq}
use Rattle.ep_tree.specs.declared.expression.ComponentValue.{ComponentValue}
use Rattle.ep_typed.specs.Denoters.{bare_type_of, base_within, host_within, type_within}
use Rattle.ep_typed.specs.Hosts as typed
use Rattle.ep_typed.specs.Hosts.{is_of_host}
use Rattle.ep_typed.specs.Trees.{Constant, Denoter, Expr, Initial, Named, SetConstant}
use Rattle.ep_values.specs.TypeValues as type
use Rattle.ep_values.specs.TypeValues.{TypeValue}
use Rattle.ep_meaning.specs.Valid.{IsSetOf, IsStartFor, IsTypeOf, initial, set_start, word_start}
use Rattle.ep_typed.specs.Viewed.{constant_expr, denoter_of}
use Rattle.ep_typed.specs.declared.denoter.Denoter.TheVariants as denoter
use Rattle.ep_typed.specs.declared.unit.Unit.{Unit as TypedUnit}
use Rattle.ep_typed.specs.declared.unit.UnitType.{UnitType}
use Rattle.ep_typed.specs.declared.value.Value.{Value}
use Rattle.ep_typed.specs.declared.value.Value.TheVariants as value
use Rattle.ep_typed.proofs.public.Forms.{initial_is}
use Rattle.ep_meaning.proofs.public.Typed.{typed_bare, typed_of_host, typed_set}
use Rattle.ep_scope.specs.declared.kind.Kind.{Kind}
use Rattle.ep_scope.specs.declared.kind.Kind.TheVariants as kind
use Rattle.ep_scope.specs.declared.rule.TheConstants as rule
use Rattle.ep_expr_laws.specs.Agreement.{Arrays, IsConstantIf, IsSetOver, Records, Structure}
use Rattle.ep_check_expr.specs.Constants.{initial_state_judged}
use Rattle.ep_rules.specs.Hosts.{typed_host}
use Rattle.ep_check_expr.specs.StructuredValues.{asked_by}
use Rattle.ep_rules.specs.Judgements.{Accepts, Breaks}
use Rattle.ep_expr_laws.specs.Laws.{InitialStatesAreSound}
use Rattle.ep_check_expr.specs.declared.constants.ConstantForm.{ConstantForm}
use Rattle.ep_expr_laws.proofs.public.SameHost.{host_same}
use Rattle.ep_stmt_rules.proofs.public.judged.Fits.{Fits, fits_is, fits_then}
use Rattle.ep_check_unit.specs.Blocks.{Block}
use Rattle.ep_unit_rules.specs.declared.own.Enclosing.{Enclosing}
use Rattle.ep_unit_rules.specs.InitialStates.{may_begin}
use Rattle.ep_check_unit.specs.Declarations.{DenoterPart, Written, begun_with, fitting_state, initial_written, noted, scopes_of, settled_part, with_initial_state}
use Rattle.ep_unit_laws.proofs.Agreeing.{holds_agrees, within}
use Rattle.ep_unit_laws.proofs.Denoting.{Denotes, DenotesKind, DenotesSet, HasBare, IsMadeWithin, kind_more}
use Rattle.ep_unit_laws.proofs.Holds.{holds_more, lists_kind_more, named_tree, type_values}
use Rattle.ep_unit_laws.proofs.Leading.{grows_trans, noted_grows, waits_some}
use Rattle.ep_unit_laws.proofs.Prefixes.{prefix_length}
use Rattle.ep_unit_laws.proofs.Structures.{IsKnown, part_settles}
use Rattle.ep_unit_laws.proofs.Types.{Settles, Writes}

-- ---- denoters

module _ (types : List UnitType) where
  initial_found : (of : Denoter) (x : Expr) (t : TypeValue) (k n : ℕ) → k < n → type_within types n of ≡ Some t → type_within types n (Initial of x) ≡ Some t
  initial_found of x t k zero lt e = absurd (omega (arith, lt))
  initial_found of x t k (suc n) lt e = e

  -- the bare form is that of the type
  bare_initial : (k : ℕ) (of : Denoter) (v : Expr) (t : TypeValue) → IsStartFor types t v → HasBare types k of t → HasBare types k (Initial of v) t
  bare_initial k of v t s x = record {
    type_value = x.type_value;
    bare = x.bare;
    has_type = λ n lt. initial_found of v x.type_value k n lt (x.has_type n lt);
    typed = initial of v x.type_value x.typed (subst (λ u. IsStartFor types u v) (sym x.bare ∙ typed_bare types of x.type_value x.typed) s);
  }

  initial_host : (of : Denoter) (v : Expr) (h : typed.Host) (n : ℕ) → host_within types n of ≡ Some h → host_within types n (Initial of v) ≡ Some h
  initial_host of v h zero e = e
  initial_host of v h (suc n) e = e

  initial_base : (of : Denoter) (v : Expr) (base : Denoter) (n : ℕ) → base_within types n of ≡ Some base → base_within types n (Initial of v) ≡ Some base
  initial_base of v base zero e = e
  initial_base of v base (suc n) e = e

  initial_made : (of : Denoter) (v : Expr) (s : Structure) (n : ℕ) → IsMadeWithin types n of s → IsMadeWithin types n (Initial of v) s
  initial_made of v (Arrays p) zero e = e
  initial_made of v (Arrays p) (suc n) e = e
  initial_made of v (Records ds) zero e = e
  initial_made of v (Records ds) (suc n) e = e

  -- so the denoter is of the kind of the type
  pub kind_initial : (k : ℕ) (of : Denoter) (v : Expr) (c : Kind) (t : TypeValue) → IsStartFor types t v → DenotesKind types k of c t → DenotesKind types k (Initial of v) c t
  kind_initial k of v (kind.Ordinal h) t s x = record { has_host = λ n lt. initial_host of v (typed_host h) n (x.has_host n lt); has_bare = bare_initial k of v t s x.has_bare }
  kind_initial k of v (kind.Structured number) t s x = record {
    structure = x.structure;
    has_structure = λ n lt. initial_made of v x.structure n (x.has_structure n lt);
    is_structured = x.is_structured;
    of_number = x.of_number;
    of_structure = x.of_structure;
    has_bare = bare_initial k of v t s x.has_bare;
  }
  kind_initial k of v (kind.Set h) t s x = record { base = x.base; has_base = λ n lt. initial_base of v x.base n (x.has_base n lt); of_host = x.of_host; has_bare = bare_initial k of v t s x.has_bare }
  kind_initial k of v kind.EmptySet t s x = absurd x
  kind_initial k of v kind.Text t s x = absurd x
  kind_initial k of v kind.File t s x = absurd x

  -- a number of the host of an ordinal type
  word_fits : (k : ℕ) (d : Denoter) (h : typed.Host) (t : TypeValue) (z : ℤ) → k ≤ length types → Denotes types k d h t → IsTrue (is_of_host h z) → IsStartFor types t (Constant z)
  word_fits k d h t z le x of_host = go t (subst (IsTypeOf h) x.has_bare.bare (typed_of_host types d x.has_bare.type_value h x.has_bare.typed (x.has_host (suc (length types)) (omega (arith, le)))))
    where
      go : (u : TypeValue) → IsTypeOf h u → IsStartFor types u (Constant z)
      go (type.Ordinal low high) of_type = word_start low high h z of_type of_host
      go type.Text of_type = absurd of_type
      go (type.Array low high of) of_type = absurd of_type
      go (type.Record ts) of_type = absurd of_type
      go (type.Set low high) of_type = absurd of_type
      go (type.Initial of start) of_type = absurd of_type

  -- a set over that of a set type
  set_fits : (k : ℕ) (d : Denoter) (h : typed.Host) (t : TypeValue) (ms : List ℕ) → k ≤ length types → DenotesSet types k d h t → IsSetOver h ms → IsStartFor types t (SetConstant ms)
  set_fits k d h t ms le x over = go t (subst (IsSetOf h) x.has_bare.bare (typed_set types d x.has_bare.type_value x.base h x.has_bare.typed (x.has_base (suc (length types)) (omega (arith, le))) x.of_host))
    where
      go : (u : TypeValue) → IsSetOf h u → IsStartFor types u (SetConstant ms)
      go (type.Ordinal low high) of_type = absurd of_type
      go type.Text of_type = absurd of_type
      go (type.Array low high of) of_type = absurd of_type
      go (type.Record ts) of_type = absurd of_type
      go (type.Set low high) of_type = set_start low high h ms of_type over.0 over.1
      go (type.Initial of start) of_type = absurd of_type

-- ---- types that are written

module _ (u : TypedUnit) where
  -- a constant of one kind that may be the initial state of a type of the other is one
  pub fitting_start : (es : List Enclosing) (k : ℕ) (d : Denoter) (of : Kind) (t : TypeValue) (given : Kind) (built : Bool) (v : Value) → k ≤ length u.types → built ≡ true → DenotesKind u.types k d of t → may_begin given of ≡ true
      → IsConstantIf built (type_values u) u.types given v → IsStartFor u.types t (constant_expr v)
  fitting_start es k d (kind.Ordinal h) t (kind.Ordinal g) built (value.Word z) le is x m c = word_fits u.types k d (typed_host h) t z le x (subst (λ q. IsTrue (is_of_host q z)) (host_same h g m) c.1)
  fitting_start es k d (kind.Ordinal h) t (kind.Ordinal g) built (value.Text bytes) le is x m c = absurd c
  fitting_start es k d (kind.Ordinal h) t (kind.Ordinal g) built (value.Set ms) le is x m c = absurd c
  fitting_start es k d (kind.Ordinal h) t (kind.Ordinal g) built (value.Structured of elements) le is x m c = absurd c
  fitting_start es k d (kind.Ordinal h) t (kind.Structured n) built v le is x m c = cc
  fitting_start es k d (kind.Ordinal h) t (kind.Set g) built v le is x m c = cc
  fitting_start es k d (kind.Ordinal h) t kind.EmptySet built v le is x m c = cc
  fitting_start es k d (kind.Ordinal h) t kind.Text built v le is x m c = cc
  fitting_start es k d (kind.Ordinal h) t kind.File built v le is x m c = cc
  fitting_start es k d (kind.Set h) t (kind.Set g) built (value.Word z) le is x m c = absurd c
  fitting_start es k d (kind.Set h) t (kind.Set g) built (value.Text bytes) le is x m c = absurd c
  fitting_start es k d (kind.Set h) t (kind.Set g) built (value.Structured of elements) le is x m c = absurd c
  fitting_start es k d (kind.Set h) t (kind.Set g) built (value.Set ms) le is x m c = set_fits u.types k d (typed_host h) t ms le x (subst (λ q. IsSetOver q ms) (host_same h g m) c.1)
  fitting_start es k d (kind.Set h) t kind.EmptySet built (value.Word z) le is x m c = absurd c
  fitting_start es k d (kind.Set h) t kind.EmptySet built (value.Text bytes) le is x m c = absurd c
  fitting_start es k d (kind.Set h) t kind.EmptySet built (value.Structured of elements) le is x m c = absurd c
  fitting_start es k d (kind.Set h) t kind.EmptySet built (value.Set ms) le is x m c = set_fits u.types k d (typed_host h) t ms le x (c (typed_host h))
  fitting_start es k d (kind.Set h) t (kind.Ordinal g) built v le is x m c = cc
  fitting_start es k d (kind.Set h) t (kind.Structured n) built v le is x m c = cc
  fitting_start es k d (kind.Set h) t kind.Text built v le is x m c = cc
  fitting_start es k d (kind.Set h) t kind.File built v le is x m c = cc
  fitting_start es k d (kind.Structured n) t (kind.Ordinal g) built v le is x m c = cc
  fitting_start es k d (kind.Structured n) t (kind.Structured o) built (value.Structured of elements) le is x m c =
      let own = c is in
      let same : o ≡ n = number_same o n m in
      let its : own.0 ≡ t = same_Some own.0 t (sym own.1.0 ∙ (ap (λ i. bare_type_of u.types (Named i [])) same ∙ x.of_number)) in
      subst (λ y. IsStartFor u.types y (constant_expr (value.Structured of elements))) its own.2
    where
      number_same : (a b : ℕ) → nat_eq a b ≡ true → a ≡ b
      number_same a b e = grind (arith, nat_tests)
  fitting_start es k d (kind.Structured n) t (kind.Structured o) built (value.Word z) le is x m c = absurd (c is)
  fitting_start es k d (kind.Structured n) t (kind.Structured o) built (value.Text bytes) le is x m c = absurd (c is)
  fitting_start es k d (kind.Structured n) t (kind.Structured o) built (value.Set ms) le is x m c = absurd (c is)
  fitting_start es k d (kind.Structured n) t (kind.Set g) built v le is x m c = cc
  fitting_start es k d (kind.Structured n) t kind.EmptySet built v le is x m c = cc
  fitting_start es k d (kind.Structured n) t kind.Text built v le is x m c = cc
  fitting_start es k d (kind.Structured n) t kind.File built v le is x m c = cc
  fitting_start es k d kind.EmptySet t given built v le is x m c = absurd x
  fitting_start es k d kind.Text t given built v le is x m c = absurd x
  fitting_start es k d kind.File t given built v le is x m c = absurd x

  -- what the unit holds of a type with a constant that is built
  begun_wrote : InitialStatesAreSound → (line : ℕ) (b : Block) (w : Written) (v : ComponentValue) (c : ConstantForm) → c.built ≡ true → Settles u b w → initial_state_judged (scopes_of w.block) (asked_by w.kind) v ≡ Accepts c → may_begin c.kind w.kind ≡ true
      → Writes u b (record { denoter = denoter.Initial w.denoter c.value; of = w.of; kind = w.kind; nodes = (with_initial_state line w c).nodes; block = w.block })
  begun_wrote sound line b w v c built s e m = record {
    grows = s.grows;
    holds = λ under ext free next x.
        let i : ℕ = length w.block.types in
        let y = s.holds under ext free x in
        let le : i ≤ length u.types = prefix_length w.block.types u.types ext.types in
        let constant = sound (scopes_of w.block) (asked_by w.kind) v c e (within u w.block.own.enclosing) (type_values u) (holds_agrees u i w.block (s.grows.opens under) le y.block).1 in
        let start = fitting_start w.block.own.enclosing i (denoter_of w.denoter) w.kind y.denotes.0 c.kind c.built c.value le built y.denotes.1 m constant in
        record {
          block = holds_more u i (suc i) w.block (omega arith) y.block;
          denotes = (
            y.denotes.0,
            subst (λ d. DenotesKind u.types i d w.kind y.denotes.0) (sym (initial_is w.denoter c.value)) (kind_initial u.types i (denoter_of w.denoter) (constant_expr c.value) w.kind y.denotes.0 start y.denotes.1),
          );
          of = kind_more u.types i (suc i) (named_tree w.of) w.kind y.denotes.0 (omega arith) y.denotes.2;
          lists = lists_kind_more u i (suc i) w.kind (omega arith) y.lists;
        };
  }

  begun_writes : InitialStatesAreSound → (built : Bool) (line : ℕ) (b : Block) (w : Written) (v : ComponentValue) (c : ConstantForm) → c.built ≡ built → Settles u b w → initial_state_judged (scopes_of w.block) (asked_by w.kind) v ≡ Accepts c → may_begin c.kind w.kind ≡ true
      → Writes u b (record { denoter = denoter.Initial w.denoter c.value; of = w.of; kind = w.kind; nodes = (with_initial_state line w c).nodes; block = noted built line w.block })
  begun_writes sound true line b w v c built s e m = begun_wrote sound line b w v c built s e m
  begun_writes sound false line b w v c built s e m = record {
    grows = grows_trans b w.block (noted false line w.block) s.grows (noted_grows false line w.block);
    holds = λ under ext free next x. absurd (waits_some w.block.waits line free);
  }

  fitting_writes : InitialStatesAreSound → (fits : Bool) (line : ℕ) (b : Block) (w : Written) (v : ComponentValue) (c : ConstantForm) → Settles u b w → initial_state_judged (scopes_of w.block) (asked_by w.kind) v ≡ Accepts c → may_begin c.kind w.kind ≡ fits
      → Fits (Writes u b) (if fits then Accepts (with_initial_state line w c) else Breaks (rule.INITIAL_STATE ∷ []))
  fitting_writes sound true line b w v c s e m = begun_writes sound c.built line b w v c refl s e m
  fitting_writes sound false line b w v c s e m = tt

  -- a type with an initial state is written
  pub initial_writes : InitialStatesAreSound → (p : DenoterPart) (v : ComponentValue) → IsKnown u p → (line : ℕ) (b : Block) → Fits (Writes u b) (initial_written p v line b)
  initial_writes sound p v known line b =
      fits_then (Settles u b) (Writes u b) (begun_with line v) (settled_part p line b) (part_settles u p known line b)
      (λ w s. fits_then (λ c. initial_state_judged (scopes_of w.block) (asked_by w.kind) v ≡ Accepts c) (Writes u b) (fitting_state line w) (initial_state_judged (scopes_of w.block) (asked_by w.kind) v) (fits_is (initial_state_judged (scopes_of w.block) (asked_by w.kind) v))
      (λ c e. fitting_writes sound (may_begin c.kind w.kind) line b w v c s e refl))
