-- Record types that are written in a block: the unit that has the block's lists has them as valid types.
use Rattle.std.proofs.Common.{◌≡◌, ℕ, zero, suc, ◌+◌, ◌<◌, ◌≤◌, Bool, true, false, List, [], ◌∷◌, ◌++◌, map, length, Some, None, slice_get, refl, sym, ap, ◌∙◌, subst, arith}
use Rattle.std.proofs.lemmas.Option.{slice_get_within}
use Rattle.std.proofs.lemmas.List.Elements.{All-cons, All-nil}
use Rattle.std.specs.Prelude.{All, ⊤, if◌then◌else◌}
use Rattle.ep_typed.specs.Denoters.{denoter_at, record_of}
use Rattle.ep_typed.specs.Trees as tree
use Rattle.ep_values.specs.TypeValues as type
use Rattle.ep_values.specs.TypeValues.{ComponentTypes, TypeValue, next_component, no_component, type_among}
use Rattle.ep_typed.specs.Viewed as viewed
use Rattle.ep_typed.specs.Viewed.{denoter_of, denoter_step, field_step, part_step, selector_step, variant_part_step, variant_step}
use Rattle.ep_typed.specs.declared.denoter.Denoter.TheFolds.{fold-roll-FieldPart, fold-roll-RecordField}
use Rattle.ep_typed.specs.declared.unit.Unit.{Unit as TypedUnit}
use Rattle.ep_typed.proofs.public.Forms.{record_is}
use Rattle.ep_scope.specs.declared.kind.Kind.TheVariants as kind
use Rattle.ep_scope.specs.declared.rule.TheConstants as rule
use Rattle.ep_scope.specs.declared.structure.Composition.TheVariants as composition
use Rattle.ep_scope.specs.declared.structure.FieldType.{FieldType}
use Rattle.ep_scope.specs.declared.structure.StructuredType.{StructuredType}
use Rattle.ep_expr_laws.specs.Agreement.{AreFieldValues, AreFields, IsFieldOf, IsFieldValue, Records}
use Rattle.ep_rules.specs.Judgements.{Accepts, Breaks, when_accepted}
use Rattle.ep_stmt_rules.proofs.public.judged.Fits.{Fits, fits_then, fits_weaker}
use Rattle.ep_check_unit.specs.Blocks.{Block}
use Rattle.ep_unit_rules.specs.Records.{Field, field_part, fields_named, has_field, own_fields, record_field}
use Rattle.ep_check_unit.specs.Declarations.{Fielded, ListJudged, Listed, Section, Written, field_of, plain_list, record_over, record_written, section_written, sections_written, settled_part}
use Rattle.ep_check_unit.proofs.public.Denoters.{AreKept}
use Rattle.ep_unit_laws.proofs.Denoting.{AreDenoted, DenotesStructured, bare_more, denotes_record, kind_bare, kind_valid, kind_valued, record_there}
use Rattle.ep_unit_laws.proofs.Agreeing.{denoter_holds}
use Rattle.ep_unit_laws.proofs.Holds.{HasTypeHere, Holds, HoldsStructuredType, ListsKind, all_lists_more, has_type_more, holds_more, lists_kind_more, lists_kind_small, type_values}
use Rattle.ep_unit_laws.proofs.Leading.{Extends, Grows, extends_before, grows_refl, grows_trans}
use Rattle.ep_unit_laws.proofs.Prefixes.{prefix_length}
use Rattle.ep_unit_laws.proofs.Open.{IsOpen}
use Rattle.ep_unit_laws.proofs.Structures.{IsKnown, part_settles, structure_grows, structure_held}
use Rattle.ep_unit_laws.proofs.Types.{IsNext, Settles, Wrote, Writes, next_denotes}

-- ---- denoters of fields

-- the denoters of the fields
abbrev pub denoters_of : List Field → List tree.Denoter
denoters_of fs = map (λ f. denoter_of f.denoter) fs

-- that of a field, as the record's denoter has it
rolled_is : (f : Field) → viewed.field_of (record_field f) ≡ denoter_of f.denoter
rolled_is f =
    fold-roll-RecordField tree.Denoter tree.Denoter (List tree.Denoter) tree.Denoter tree.Denoter (List tree.Denoter) denoter_step selector_step part_step field_step variant_step variant_part_step
    (record { name = f.name; denoter = f.denoter })

pub all_rolled : (fs : List Field) → map viewed.field_of (map record_field fs) ≡ denoters_of fs
all_rolled [] = refl
all_rolled (f ∷ fs) = ap (λ d. d ∷ map viewed.field_of (map record_field fs)) (rolled_is f) ∙ ap (λ ds. denoter_of f.denoter ∷ ds) (all_rolled fs)

plain_is : (fs : List Field) → viewed.components_of (field_part fs None) ≡ denoters_of fs ++ []
plain_is fs =
    fold-roll-FieldPart tree.Denoter tree.Denoter (List tree.Denoter) tree.Denoter tree.Denoter (List tree.Denoter) denoter_step selector_step part_step field_step variant_step variant_part_step
    (record { fields = map record_field fs; variant_part = None })
    ∙ ap (λ ds. ds ++ []) (all_rolled fs)

module _ (u : TypedUnit) where
  -- ---- fields that stand

  -- the field has its type and kind behind so many names
  abbrev pub HasField : ℕ → Field → Type 0
  HasField i f = ListsKind u i f.kind × HasTypeHere u i (denoter_of f.denoter) f.of f.kind

  abbrev pub HaveFields : ℕ → List Field → Type 0
  HaveFields i [] = ⊤
  HaveFields i (f ∷ fs) = HasField i f × HaveFields i fs

  pub fields_later : (i j : ℕ) (fs : List Field) → i ≤ j → HaveFields i fs → HaveFields j fs
  fields_later i j [] le x = tt
  fields_later i j (f ∷ fs) le x = ((lists_kind_more u i j f.kind le x.0.0, has_type_more u i j (denoter_of f.denoter) f.of f.kind le x.0.1), fields_later i j fs le x.1)

  fields_push : (i : ℕ) (fs : List Field) (f : Field) → HaveFields i fs → HasField i f → HaveFields i (fs ++ f ∷ [])
  fields_push i [] f x h = (h, tt)
  fields_push i (g ∷ gs) f x h = (x.0, fields_push i gs f x.1 h)

  -- what is written before these fields stands, and so do they
  pub record Fields (b : Block) (f : Fielded) : Type 0 where
    pub grows : Grows b f.block
    pub holds : IsOpen b → Extends u f.block → f.block.waits ≡ None → Holds u (length b.types) b → Holds u (length f.block.types) f.block × HaveFields (length f.block.types) f.fields

  -- fields of one type more, where it stands
  named_kept : (w : Written) (names : List (List ℕ)) (fs : List Field)
      → Fits (λ all. (i : ℕ) → ListsKind u i w.kind → HasTypeHere u i (denoter_of w.denoter) w.of w.kind → HaveFields i fs → HaveFields i all) (fields_named (field_of w) names fs)
  named_kept w [] fs = λ i l h x. x
  named_kept w (name ∷ names) fs = chosen (has_field fs name) (named_kept w names (fs ++ field_of w name ∷ []))
    where
      chosen : (c : Bool) → Fits (λ all. (i : ℕ) → ListsKind u i w.kind → HasTypeHere u i (denoter_of w.denoter) w.of w.kind → HaveFields i (fs ++ field_of w name ∷ []) → HaveFields i all) (fields_named (field_of w) names (fs ++ field_of w name ∷ []))
          → Fits (λ all. (i : ℕ) → ListsKind u i w.kind → HasTypeHere u i (denoter_of w.denoter) w.of w.kind → HaveFields i fs → HaveFields i all)
          (if c then Breaks (rule.TWICE ∷ []) else fields_named (field_of w) names (fs ++ field_of w name ∷ []))
      chosen true kept = tt
      chosen false kept =
          fits_weaker (λ all. (i : ℕ) → ListsKind u i w.kind → HasTypeHere u i (denoter_of w.denoter) w.of w.kind → HaveFields i (fs ++ field_of w name ∷ []) → HaveFields i all)
          (λ all. (i : ℕ) → ListsKind u i w.kind → HasTypeHere u i (denoter_of w.denoter) w.of w.kind → HaveFields i fs → HaveFields i all) (fields_named (field_of w) names (fs ++ field_of w name ∷ []))
          (λ all more i l h x. more i l h (fields_push i fs (field_of w name) x (l, h))) kept

  -- a section behind others
  with_section : (b : Block) (f : Fielded) → Fields b f → (w : Written) → Settles u f.block w → (all : List Field)
      → ((i : ℕ) → ListsKind u i w.kind → HasTypeHere u i (denoter_of w.denoter) w.of w.kind → HaveFields i f.fields → HaveFields i all) → Fields b (record { fields = all; block = w.block })
  with_section b f x w s all more = record {
    grows = grows_trans b f.block w.block x.grows s.grows;
    holds = λ under ext free held.
        let y = x.holds under (extends_before u f.block w.block s.grows (x.grows.opens under) ext) (s.grows.waits free) held in
        let z = s.holds (x.grows.opens under) ext free y.0 in
        (z.block, more (length w.block.types) z.lists z.denotes (fields_later (length f.block.types) (length w.block.types) f.fields (prefix_length f.block.types w.block.types s.grows.types) y.1));
  }

  section_fits : (line : ℕ) (s : Section) → IsKnown u s.of → (b : Block) (f : Fielded) → Fields b f → Fits (Fields b) (section_written line s f)
  section_fits line s known b f x =
      fits_then (Settles u f.block) (Fields b) (λ w. when_accepted (λ fields. Accepts (record { fields = fields; block = w.block })) (fields_named (field_of w) s.names f.fields)) (settled_part s.of line f.block) (part_settles u s.of known line f.block)
      (λ w stands. fits_then (λ all. (i : ℕ) → ListsKind u i w.kind → HasTypeHere u i (denoter_of w.denoter) w.of w.kind → HaveFields i f.fields → HaveFields i all) (Fields b) (λ fields. Accepts (record { fields = fields; block = w.block }))
      (fields_named (field_of w) s.names f.fields) (named_kept w s.names f.fields) (λ all more. with_section b f x w stands all more))

  pub sections_fit : (line : ℕ) (ss : List Section) → AreKept (IsKnown u) ss → (b : Block) (f : Fielded) → Fields b f → Fits (Fields b) (sections_written line ss f)
  sections_fit line [] known b f x = x
  sections_fit line (s ∷ ss) known b f x = fits_then (Fields b) (Fields b) (sections_written line ss) (section_written line s f) (section_fits line s known.0 b f x) (λ g y. sections_fit line ss known.1 b g y)

  -- ---- lists of fields

  -- components of these denoters, where they are the fields of a record or of a variant
  pub record ListHeld (i : ℕ) (ds : tree.Denoters) (fs : List FieldType) : Type 0 where
    pub types : ComponentTypes
    pub denoted : AreDenoted u.types i ds types
    pub lists : All (λ f. ListsKind u i f.kind) fs
    pub fields : i ≤ length u.types → AreFields (type_values u) u.types fs ds
    pub values : i ≤ length u.types → AreFieldValues (type_values u) fs types

  denoted_more : (i j : ℕ) (ds : tree.Denoters) (ts : ComponentTypes) → i ≤ j → AreDenoted u.types i ds ts → AreDenoted u.types j ds ts
  denoted_more i j tree.no_denoter no_component le x = tt
  denoted_more i j tree.no_denoter (next_component t ts) le x = absurd x
  denoted_more i j (tree.next_denoter d ds) no_component le x = absurd x
  denoted_more i j (tree.next_denoter d ds) (next_component t ts) le x = (bare_more u.types i j d t le x.0, denoted_more i j ds ts le x.1)

  pub list_more : (i j : ℕ) (ds : tree.Denoters) (fs : List FieldType) → i ≤ j → ListHeld i ds fs → ListHeld j ds fs
  list_more i j ds fs le x = record {
    types = x.types;
    denoted = denoted_more i j ds x.types le x.denoted;
    lists = all_lists_more u i j fs le x.lists;
    fields = λ few. x.fields (omega (arith, le, few));
    values = λ few. x.values (omega (arith, le, few));
  }

  -- what is written before this list stands, and so does it
  pub record Lists (b : Block) (l : Listed) : Type 0 where
    pub grows : Grows b l.block
    pub holds : IsOpen b → Extends u l.block → l.block.waits ≡ None → Holds u (length b.types) b → Holds u (length l.block.types) l.block × ListHeld (length l.block.types) (tree.denoters (viewed.components_of l.listing.part)) l.listing.fields

  abbrev pub IsKnownList : ListJudged → Type 0
  IsKnownList fields = (line : ℕ) (b : Block) → Fits (Lists b) (fields line b)

  -- ---- the fields of a list that are in none of its variants, before other components

  -- the bare forms of their type values, before these
  pub types_of : (i : ℕ) (fs : List Field) → HaveFields i fs → ComponentTypes → ComponentTypes
  types_of i [] x rest = rest
  types_of i (f ∷ fs) x rest = next_component x.0.1.0 (types_of i fs x.1 rest)

  pub all_denoted : (i : ℕ) (fs : List Field) (x : HaveFields i fs) (rest : List tree.Denoter) (more : ComponentTypes) → AreDenoted u.types i (tree.denoters rest) more
      → AreDenoted u.types i (tree.denoters (denoters_of fs ++ rest)) (types_of i fs x more)
  unfolding types_of
  all_denoted i [] x rest more h = h
  all_denoted i (f ∷ fs) x rest more h =
      (kind_bare u.types i (denoter_of f.denoter) f.kind x.0.1.0 x.0.1.1, all_denoted i fs x.1 rest more h)

  -- behind them
  pub denoter_behind : (fs : List Field) (rest : List tree.Denoter) (k : ℕ) → denoter_at (tree.denoters (denoters_of fs ++ rest)) (length fs + k) ≡ denoter_at (tree.denoters rest) k
  denoter_behind [] rest k = ap (denoter_at (tree.denoters rest)) {x = 0 + k} {y = k} (omega arith)
  denoter_behind (f ∷ fs) rest k =
      ap (denoter_at (tree.next_denoter (denoter_of f.denoter) (tree.denoters (denoters_of fs ++ rest)))) {x = suc (length fs) + k} {y = suc (length fs + k)} (omega arith) ∙ denoter_behind fs rest k

  pub type_behind : (i : ℕ) (fs : List Field) (x : HaveFields i fs) (more : ComponentTypes) (k : ℕ) → type_among (types_of i fs x more) (length fs + k) ≡ type_among more k
  unfolding types_of
  type_behind i [] x more k = ap (type_among more) {x = 0 + k} {y = k} (omega arith)
  type_behind i (f ∷ fs) x more k = ap (type_among (next_component x.0.1.0 (types_of i fs x.1 more))) {x = suc (length fs) + k} {y = suc (length fs + k)} (omega arith) ∙ type_behind i fs x.1 more k

  -- a field by its number
  pub record FieldAt (i : ℕ) (ds : tree.Denoters) (ts : ComponentTypes) (number : ℕ) (f : Field) : Type 0 where
    pub has : HasField i f
    pub denoter_there : denoter_at ds number ≡ Some (denoter_of f.denoter)
    pub type_there : type_among ts number ≡ Some has.1.0

  field_there : (i : ℕ) (fs : List Field) (x : HaveFields i fs) (rest : List tree.Denoter) (more : ComponentTypes) (k : ℕ) (f : Field) → slice_get fs k ≡ Some f
      → FieldAt i (tree.denoters (denoters_of fs ++ rest)) (types_of i fs x more) k f
  unfolding types_of
  field_there i [] x rest more k f e = cc
  field_there i (g ∷ gs) x rest more zero f e =
      let is : g ≡ f = cc in
      subst (FieldAt i (tree.denoters (denoters_of (g ∷ gs) ++ rest)) (next_component x.0.1.0 (types_of i gs x.1 more)) 0) is (record { has = x.0; denoter_there = refl; type_there = refl })
  field_there i (g ∷ gs) x rest more (suc k) f e =
      let y = field_there i gs x.1 rest more k f e in
      record { has = y.has; denoter_there = y.denoter_there; type_there = y.type_there }

  -- the field of this number
  abbrev pub own_field : ℕ → Field → FieldType
  own_field number f = record { name = f.name; of = f.of; kind = f.kind; path = []; number = number; tag = None }

  -- what holds of each one by its number holds of all
  each_own : (P : FieldType → Type 0) (n : ℕ) (fs : List Field) → ((k : ℕ) (f : Field) → slice_get fs k ≡ Some f → P (own_field (n + k) f)) → All P (own_fields n fs)
  each_own P n [] h = All-nil P
  each_own P n (f ∷ fs) h =
      All-cons P (own_field n f) (own_fields (suc n) fs) (subst (λ m. P (own_field m f)) {x = n + 0} {y = n} (omega arith) (h 0 f refl))
      (each_own P (suc n) fs (λ k g e. subst (λ m. P (own_field m g)) {x = n + suc k} {y = suc n + k} (omega arith) (h (suc k) g e)))

  module _ (i : ℕ) (fs : List Field) (x : HaveFields i fs) (rest : List tree.Denoter) (more : ComponentTypes) where
    abbrev Ds : tree.Denoters
    Ds = tree.denoters (denoters_of fs ++ rest)

    abbrev Ts : ComponentTypes
    Ts = types_of i fs x more

    at : (k : ℕ) (f : Field) → slice_get fs k ≡ Some f → FieldAt i Ds Ts (0 + k) f
    at k f e = subst (λ n. FieldAt i Ds Ts n f) {x = k} {y = 0 + k} (omega arith) (field_there i fs x rest more k f e)

    pub own_listed : All (λ f. ListsKind u i f.kind) (own_fields 0 fs)
    own_listed = each_own (λ f. ListsKind u i f.kind) 0 fs (λ k f e. (at k f e).has.0)

    pub own_held : i ≤ length u.types → AreFields (type_values u) u.types (own_fields 0 fs) Ds
    own_held le =
        each_own (IsFieldOf (type_values u) u.types Ds) 0 fs
        (λ k f e. let y = at k f e in (denoter_of f.denoter, y.denoter_there, denoter_holds u i (denoter_of f.denoter) f.of f.kind le y.has.0 y.has.1))

    pub own_valued : i ≤ length u.types → AreFieldValues (type_values u) (own_fields 0 fs) Ts
    own_valued le =
        each_own (λ f. IsFieldValue (type_values u) f Ts) 0 fs
        (λ k f e. let y = at k f e in (y.has.1.0, y.type_there, kind_valued u.types (type_values u) (λ n. refl) i (denoter_of f.denoter) f.kind y.has.1.0 le (lists_kind_small u i f.kind y.has.0) y.has.1.1))

  -- ---- a list without a variant part

  plain_held : (i : ℕ) (fs : List Field) → HaveFields i fs → ListHeld i (tree.denoters (viewed.components_of (field_part fs None))) (own_fields 0 fs)
  plain_held i fs x =
      subst (λ ds. ListHeld i (tree.denoters ds) (own_fields 0 fs)) (sym (plain_is fs))
      (record {
        types = types_of i fs x no_component;
        denoted = all_denoted i fs x [] no_component tt;
        lists = own_listed i fs x [] no_component;
        fields = own_held i fs x [] no_component;
        values = own_valued i fs x [] no_component;
      })

  pub plain_lists : (b : Block) (f : Fielded) → Fields b f → Lists b (plain_list f)
  plain_lists b f x = record {
    grows = x.grows;
    holds = λ under ext free held. let y = x.holds under ext free held in (y.0, plain_held (length f.block.types) f.fields y.1);
  }

  -- ---- a record of fields that stand

  module _ (b : Block) (l : Listed) (list : Lists b l) where
    abbrev Number : ℕ
    Number = length l.block.types

    abbrev Over : Written
    Over = record_over l

    abbrev Made : StructuredType
    Made = record { number = Number; composition = composition.Record l.listing.fields }

    abbrev Components : tree.Denoters
    Components = tree.denoters (viewed.components_of l.listing.part)

    over_grows : Grows b Over.block
    over_grows = grows_trans b l.block Over.block list.grows (structure_grows Made l.block)

    module _ (under : IsOpen b) (ext : Extends u Over.block) (free : l.block.waits ≡ None) (next : IsNext u Number (denoter_of Over.denoter)) (x : Holds u (length b.types) b) where
      stood : Holds u Number l.block × ListHeld Number Components l.listing.fields
      stood = list.holds under (extends_before u l.block Over.block (structure_grows Made l.block) (list.grows.opens under) ext) free x

      within : Number < length u.types
      within = slice_get_within u.types Number next.entry next.at

      is_record : denoter_of Over.denoter ≡ tree.Record Components
      is_record = record_is l.listing.part

      components_there : record_of u.types (tree.Named Number []) ≡ Some Components
      components_there = record_there u.types Number next.entry Components next.at (next.definition ∙ is_record) (omega (arith, within))

      abbrev Value : TypeValue
      Value = type.Record stood.1.types

      over_denotes : DenotesStructured u.types Number (denoter_of Over.denoter) Number Value
      over_denotes =
          subst (λ d. DenotesStructured u.types Number d Number Value) (sym is_record)
          (denotes_record u.types Number Number next.entry Components stood.1.types stood.1.denoted next.at (next.definition ∙ is_record) within)

      -- so has its number
      number_denotes : DenotesStructured u.types (suc Number) (tree.Named Number []) Number Value
      number_denotes = next_denotes u Number (denoter_of Over.denoter) (kind.Structured Number) Value next over_denotes

      type_held : HoldsStructuredType u (suc Number) Made
      type_held = record {
        structure = Records Components;
        has_structure = components_there;
        denoter = kind_valid u.types (suc Number) (tree.Named Number []) (kind.Structured Number) Value (omega (arith, within)) number_denotes;
        components = (all_lists_more u Number (suc Number) l.listing.fields (omega arith) stood.1.lists, stood.1.fields (omega (arith, within)));
        type_value = Value;
        has_value = over_denotes.of_number;
        value_made = (stood.1.types, refl, stood.1.values (omega (arith, within)));
      }

      over_wrote : Wrote u Number Over
      over_wrote = record {
        block = structure_held u (suc Number) Made l.block type_held (holds_more u Number (suc Number) l.block (omega arith) stood.0);
        denotes = (Value, over_denotes);
        of = number_denotes;
        lists = tt;
      }

    over_writes : Writes u b Over
    over_writes = record { grows = over_grows; holds = λ under ext free next x. over_wrote under ext free next x }

  pub none_written : (b : Block) → Fields b (record { fields = []; block = b })
  none_written b = record { grows = grows_refl b; holds = λ under ext free x. (x, tt) }

  pub record_writes : (fields : ListJudged) → IsKnownList fields → (line : ℕ) (b : Block) → Fits (Writes u b) (record_written fields line b)
  record_writes fields known line b = fits_then (Lists b) (Writes u b) (λ l. Accepts (record_over l)) (fields line b) (known line b) (λ l list. over_writes b l list)
