-- What `Field` and `Index` lead to on the value of a record or an array, where the machine matches.
use Rattle.std.proofs.Common.{◌≡◌, ℕ, ℤ, pos, zero, suc, ◌+◌, ◌*◌, ◌<◌, ◌≤◌, Option, Some, None, List, [], ◌∷◌, length, option_map, slice_get, true, refl, sym, ap, ◌∙◌, subst, arith}
use Rattle.std.proofs.lemmas.Option.{same_Some}
use Rattle.std.specs.Prelude.{cond, int_lt, is_some}
use Rattle.ep_object.specs.Effects.{Work}
use Rattle.ep_simulation.specs.Follows.{Facts, Inside, IsStructure, OnTop}
use Rattle.ep_simulation.specs.Layouts.{Layout}
use Rattle.ep_simulation.specs.Matching.{AreBare, HasAt, Injection, IsBare, Matches, MachineMemory, OrdinalAt, SetAt, TypePart, Slots, at, part_among, part_of}
use Rattle.ep_object.specs.Operands.{Operand}
use Rattle.ep_object.specs.Operands as operand
use Rattle.ep_object.specs.Parts as row
use Rattle.ep_object.specs.Sets.{set_size}
use Rattle.ep_object.specs.Runs.{TurnOutcome, after, outcome, unit_in}
use Rattle.ep_object.specs.State.{Error, Running, State, Stopped, TypeTable, undefined}
use Rattle.ep_object.specs.Table.{on_operands}
use Rattle.ep_object.specs.WordRows.{bit}
use Rattle.ep_object.specs.declared.code.Image.{Image}
use Rattle.ep_object.specs.declared.code.Instr.{Instr}
use Rattle.ep_object.specs.declared.state.RecordPart.{RecordPart}
use Rattle.ep_object.specs.declared.state.TypeEntry.{TypeEntry}
use Rattle.ep_simulation.proofs.public.following.Choices.{Nothing, ReadsResult, Result_of}
use Rattle.ep_simulation.proofs.public.following.Fragments.{FailsWith}
use Rattle.ep_simulation.proofs.public.matching.BareValues.{structure_given}
use Rattle.ep_simulation.proofs.matching.Described.{bare_entry, entry_size}
use Rattle.ep_simulation.proofs.public.matching.MoreMemory.{inside_here}
use Rattle.ep_simulation.proofs.matching.SetValues.{members_loaded, undefined_loaded}
use Rattle.ep_simulation.proofs.public.matching.Standing.{within_host, word_defined}
use Rattle.ep_simulation.proofs.matching.Values.{taken, taken_holds, taken_length, taken_there}
use Rattle.ep_simulation.proofs.matching.Words.{component_has, component_type-is, component_within, less_true}
use Rattle.ep_simulation.proofs.public.rows.FieldRow.{IsAmong, among_there}
use Rattle.ep_simulation.proofs.public.rows.IndexRow.{is_within_count}
use Rattle.ep_simulation.proofs.public.rows.Rows.{instr, outcome_at}
use Rattle.ep_meaning.proofs.public.Bares.{bare_component}
use Rattle.ep_values.specs.Bounds.{component_at, count_of, gap}
use Rattle.ep_values.specs.Events.{Trace}
use Rattle.ep_values.specs.Printing.{Number, Result, Structure, Members}
use Rattle.ep_meaning.specs.Results.{given_by, weight_of}
use Rattle.ep_meaning.specs.Results as meaning_of
use Rattle.ep_values.specs.Values.{Undefined, Value, component_of, set_of, word_of}
use Rattle.ep_meaning.specs.Steps as meaning
use Rattle.ep_typed.specs.Hosts.{Host}
use Rattle.ep_values.specs.TypeValues as type
use Rattle.ep_values.specs.TypeValues.{ComponentTypes, TypeValue, bare_of, component_type, size_of, type_among}
use Rattle.ep_meaning.specs.Valid as kind
use Rattle.ep_meaning.specs.Valid.{IsStructured, IsTypeOf, IsTypeOfKind, ValueKind, tag_type}
use Rattle.ep_object.specs.declared.op.TheConstants as op
use Rattle.ep_values.specs.declared.run_error.TheConstants as run_error

-- what an instruction comes to that does this to the operands
abbrev pub working : Image → Instr → State → Work (List Operand) → TurnOutcome
working G i s w = record { weight = w.weight; to = after G i s (on_operands s w.effect) }

-- ---- a component whose words are found

module _ (layout : Layout) (G : Image) (i : Instr) (place : ℕ) (operands below : List Operand) (injection : Injection) (memory : MachineMemory) where
  -- the state before it
  abbrev before : Trace → State
  before trace = at place operands memory trace

  -- the instruction leaves the component of a type of this number, whose words begin at an offset in those of a value
  abbrev Leaves : ℕ → List ℤ → ℕ → Type 0
  Leaves c words offset = (trace : Trace) → outcome G (before trace) ≡ working G i (before trace) (row.part_at memory.types words offset c below)

  -- one of an ordinal type of the host: its word, which is defined
  word_left : {untouched : Slots} {Here : Facts} (host : Host) (low high : ℤ) → IsTypeOf host (type.Ordinal low high)
      → (c : ℕ) → IsBare memory.types c (type.Ordinal low high)
      → (words : List ℤ) (offset : ℕ) (fits : offset + size_of (type.Ordinal low high) ≤ length words) → Leaves c words offset
      → (value : Value) → OrdinalAt low high value (slice_get (taken words offset 1 fits) 0)
      → (s : meaning.State) → Matches layout G injection s memory → Here injection s memory
      → ReadsResult layout G Here (before s.trace) (length words) run_error.UNDEFINED_VALUE (unit_in G memory.frames) i.line (place + 1) (λ r. Inside untouched injection memory (OnTop (kind.Ordinal host) below r)) s (option_map Number (word_of value))
  word_left host low high of_host c described words offset fits leaves Undefined word s matches known =
      Nothing refl (record { fails = leaves s.trace ∙ rw (described, taken_there words offset 1 fits, word.is) refl })
  word_left host low high of_host c described words offset fits leaves (meaning.Components of) word s matches known = absurd word.is
  word_left host low high of_host c described words offset fits leaves (meaning.Members ms) word s matches known = absurd word.is
  word_left host low high of_host c described words offset fits leaves (meaning.Word w) word s matches known =
      let there = word.is in
      let found : int_lt undefined w ≡ true = word_defined low high w word.low_fits there.1 in
      Result_of (Number w) refl (length words) (omega arith) (record {
        injection = injection;
        memory = memory;
        operands = operand.Word w ∷ below;
        does = leaves s.trace ∙ rw (described, taken_there words offset 1 fits, there.0, found) refl;
        matches = matches;
        here = known;
        post = inside_here (record { number = w; is_number = refl; of_host = within_host host low high w of_host there.1; is = refl });
      })

  -- one of a set type: its set, which is defined
  set_left : {untouched : Slots} {Here : Facts} (host : Host) (low high : ℤ)
      → (c : ℕ) → IsBare memory.types c (type.Set low high)
      → (words : List ℤ) (offset : ℕ) (fits : offset + set_size ≤ length words) → Leaves c words offset
      → (value : Value) → SetAt low high value (slice_get (taken words offset set_size fits)) 0
      → (s : meaning.State) → Matches layout G injection s memory → Here injection s memory
      → ReadsResult layout G Here (before s.trace) (length words) run_error.UNDEFINED_VALUE (unit_in G memory.frames) i.line (place + 1) (λ r. Inside untouched injection memory (OnTop (kind.Set host) below r)) s (option_map Members (set_of value))
  set_left host low high c described words offset fits leaves Undefined held s matches known =
      Nothing refl (record { fails = leaves s.trace ∙ rw (described, taken_there words offset set_size fits, undefined_loaded (taken words offset set_size fits) below held) refl })
  set_left host low high c described words offset fits leaves (meaning.Word w) held s matches known = absurd held
  set_left host low high c described words offset fits leaves (meaning.Components of) held s matches known = absurd held
  set_left host low high c described words offset fits leaves (meaning.Members ms) held s matches known =
      Result_of (Members ms) refl (length words) (omega arith) (record {
        injection = injection;
        memory = memory;
        operands = operand.Set ms ∷ below;
        does = leaves s.trace ∙ rw (described, taken_there words offset set_size fits, members_loaded low high ms (taken words offset set_size fits) below (taken_length words offset set_size fits) held) refl;
        matches = matches;
        here = known;
        post = inside_here (record { members = ms; is_members = refl; is_set = held.is_set; is = refl });
      })

  -- what it leads to where the component is of an array or record type
  structure_outcome : (t : TypeValue) → IsStructured t → (c : ℕ) → IsBare memory.types c t
      → (words : List ℤ) (offset : ℕ) (fits : offset + size_of t ≤ length words) → Leaves c words offset → (trace : Trace)
      → outcome G (before trace) ≡ record { weight = length words + size_of t; to = Running 0 (at (place + 1) (operand.Value c (taken words offset (size_of t) fits) ∷ below) memory trace) }
  structure_outcome (type.Ordinal low high) structured c described words offset fits leaves trace = absurd structured
  structure_outcome type.Text structured c described words offset fits leaves trace = absurd structured
  structure_outcome (type.Set low high) structured c described words offset fits leaves trace = absurd structured
  structure_outcome (type.Initial of start) structured c described words offset fits leaves trace = absurd structured
  structure_outcome (type.Array low high of) structured c (n, entry, component) words offset fits leaves trace =
      let size : ℕ = size_of (type.Array low high of) in
      let many : length words + length (taken words offset size fits) ≡ length words + size = omega (arith, taken_length words offset size fits) in
      leaves trace ∙ rw (entry, taken_there words offset size fits) (ap (λ n. record { weight = n; to = Running 0 (at (place + 1) (operand.Value c (taken words offset size fits) ∷ below) memory trace) }) many)
  structure_outcome (type.Record ts) structured c (ps, entry, components) words offset fits leaves trace =
      let size : ℕ = size_of (type.Record ts) in
      let many : length words + length (taken words offset size fits) ≡ length words + size = omega (arith, taken_length words offset size fits) in
      leaves trace ∙ rw (entry, taken_there words offset size fits) (ap (λ n. record { weight = n; to = Running 0 (at (place + 1) (operand.Value c (taken words offset size fits) ∷ below) memory trace) }) many)

  -- one of an array or record type: all its words
  structure_left : {untouched : Slots} {Here : Facts} (t : TypeValue) → IsStructured t → bare_of t ≡ t
      → (c : ℕ) → IsBare memory.types c t
      → (words : List ℤ) (offset : ℕ) (fits : offset + size_of t ≤ length words) → Leaves c words offset
      → (value : Value) → HasAt injection t value (slice_get words) offset
      → (s : meaning.State) → Matches layout G injection s memory → Here injection s memory
      → ReadsResult layout G Here (before s.trace) (length words) run_error.UNDEFINED_VALUE (unit_in G memory.frames) i.line (place + 1) (λ r. Inside untouched injection memory (OnTop (kind.Structured t) below r)) s (given_by (Some t) value)
  structure_left t structured bare c described words offset fits leaves value holds s matches known =
      let own : List ℤ = taken words offset (size_of t) fits in
      Result_of (Structure t value) (structure_given t value structured ∙ ap (λ u. Some (Structure u value)) bare) (length words + size_of t) (omega arith) (record {
        injection = injection;
        memory = memory;
        operands = operand.Value c own ∷ below;
        does = structure_outcome t structured c described words offset fits leaves s.trace;
        matches = matches;
        here = known;
        post = inside_here (record {
          operand = operand.Value c own;
          holds = record {
            value = value;
            is_structure = refl;
            type_number = c;
            words = own;
            is = refl;
            bare = bare;
            described = described;
            sized = taken_length words offset (size_of t) fits;
            holds = taken_holds words offset (size_of t) fits injection t value refl holds;
          };
          is = refl;
        });
      })

  -- one of a type whose values are of the kind
  found_left : {untouched : Slots} {Here : Facts} (k : ValueKind) (t : TypeValue) → IsTypeOfKind k t → bare_of t ≡ t
      → (c : ℕ) → IsBare memory.types c t
      → (words : List ℤ) (offset : ℕ) → offset + size_of t ≤ length words → Leaves c words offset
      → (value : Value) → HasAt injection t value (slice_get words) offset
      → (s : meaning.State) → Matches layout G injection s memory → Here injection s memory
      → ReadsResult layout G Here (before s.trace) (length words) run_error.UNDEFINED_VALUE (unit_in G memory.frames) i.line (place + 1) (λ r. Inside untouched injection memory (OnTop k below r)) s (given_by (Some t) value)
  found_left (kind.Ordinal h) (type.Ordinal low high) of_kind bare c described words offset fits leaves value holds s matches known =
      word_left h low high of_kind c described words offset fits leaves value (taken_holds words offset 1 fits injection (type.Ordinal low high) value refl holds) s matches known
  found_left (kind.Ordinal h) type.Text of_kind bare c described words offset fits leaves value holds s matches known = absurd of_kind
  found_left (kind.Ordinal h) (type.Array low high of) of_kind bare c described words offset fits leaves value holds s matches known = absurd of_kind
  found_left (kind.Ordinal h) (type.Record ts) of_kind bare c described words offset fits leaves value holds s matches known = absurd of_kind
  found_left (kind.Ordinal h) (type.Set low high) of_kind bare c described words offset fits leaves value holds s matches known = absurd of_kind
  found_left (kind.Ordinal h) (type.Initial of start) of_kind bare c described words offset fits leaves value holds s matches known = absurd of_kind
  found_left (kind.Set h) (type.Initial of start) of_kind bare c described words offset fits leaves value holds s matches known = absurd of_kind
  found_left (kind.Set h) (type.Ordinal low high) of_kind bare c described words offset fits leaves value holds s matches known = absurd of_kind
  found_left (kind.Set h) type.Text of_kind bare c described words offset fits leaves value holds s matches known = absurd of_kind
  found_left (kind.Set h) (type.Array low high of) of_kind bare c described words offset fits leaves value holds s matches known = absurd of_kind
  found_left (kind.Set h) (type.Record ts) of_kind bare c described words offset fits leaves value holds s matches known = absurd of_kind
  found_left (kind.Set h) (type.Set low high) of_kind bare c described words offset fits leaves value holds s matches known =
      set_left h low high c described words offset fits leaves value (taken_holds words offset set_size fits injection (type.Set low high) value refl holds) s matches known
  found_left kind.Bytes t of_kind bare c described words offset fits leaves value holds s matches known = absurd of_kind
  found_left {untouched = untouched} {Here = Here} (kind.Structured u) t (same, structured) bare c described words offset fits leaves value holds s matches known =
      subst (λ x. ReadsResult layout G Here (before s.trace) (length words) run_error.UNDEFINED_VALUE (unit_in G memory.frames) i.line (place + 1) (λ r. Inside untouched injection memory (OnTop (kind.Structured x) below r)) s (given_by (Some t) value)) (sym same)
      (structure_left t (subst IsStructured same structured) bare c described words offset fits leaves value holds s matches known)

-- ---- a component of a value

-- where a type has no initial states, neither has the type of a component
part_bare : (t : TypeValue) (number : ℕ) (p : TypePart) → bare_of t ≡ t → part_of t number ≡ Some p → bare_of p.type_value ≡ p.type_value
part_bare t number p bare is =
    let component : component_type t number ≡ Some p.type_value = component_type-is t number p is in
    let same : component_type t number ≡ option_map bare_of (component_type t number) = ap (λ u. component_type u number) (sym bare) ∙ bare_component t number in
    same_Some (bare_of p.type_value) p.type_value (sym (ap (option_map bare_of) component) ∙ (sym same ∙ component))

-- the table has the bare form of a component where the component is
record IsBareThere (types : TypeTable) (ps : List RecordPart) (k : ℕ) (part : TypePart) : Type 0 where
  entered : RecordPart
  is : slice_get ps k ≡ Some entered
  offset : entered.offset ≡ part.offset
  form : IsBare types entered.type_number part.type_value

bare_there : (types : TypeTable) (before : ℕ) (ps : List RecordPart) (ts : ComponentTypes) (k : ℕ) (part : TypePart) → AreBare types before ps ts → part_among before ts k ≡ Some part → IsBareThere types ps k part
bare_there types before ps type.no_component k part h is = cc
bare_there types before [] (type.next_component t ts) k part h is = absurd h
bare_there types before (p ∷ ps) (type.next_component t ts) zero part h is =
    subst (λ (q : TypePart). IsBareThere types (p ∷ ps) 0 q) (same_Some (record { offset = before; type_value = t }) part is) (record { entered = p; is = refl; offset = h.0; form = h.1 })
bare_there types before (p ∷ ps) (type.next_component t ts) (suc k) part h is =
    let x = bare_there types (before + size_of t) ps ts k part h.2 is in record { entered = x.entered; is = x.is; offset = x.offset; form = x.form }

-- The component of this number of the value on an operand: the machine leaves it and spends the words of the value besides,
-- or both end with the error.
part_left : {untouched : Slots} {Here : Facts} (layout : Layout) (G : Image) (i : Instr) (place : ℕ) (operands below : List Operand) (injection : Injection) (memory : MachineMemory)
    → (t : TypeValue) (r : Result) (o : Operand) (v : IsStructure t r injection memory o) (number : ℕ) (p : TypePart) → part_of t number ≡ Some p
    → (k : ValueKind) → IsTypeOfKind k p.type_value → (c : ℕ) → IsBare memory.types c p.type_value
    → ((trace : Trace) → outcome G (at place operands memory trace) ≡ working G i (at place operands memory trace) (row.part_at memory.types v.words p.offset c below))
    → (s : meaning.State) → Matches layout G injection s memory → Here injection s memory
    → ReadsResult layout G Here (at place operands memory s.trace) (weight_of r) run_error.UNDEFINED_VALUE (unit_in G memory.frames) i.line (place + 1) (λ x. Inside untouched injection memory (OnTop k below x)) s (meaning_of.part_of r number)
part_left {untouched = untouched} {Here = Here} layout G i place operands below injection memory t r o v number p is k of_kind c described leaves s matches known =
    let inner : p.offset + size_of p.type_value ≤ size_of t = component_within t number p is in
    let fits : p.offset + size_of p.type_value ≤ length v.words = omega (arith, inner, v.sized) in
    let holds : HasAt injection p.type_value (component_of v.value number) (slice_get v.words) p.offset
    = subst (HasAt injection p.type_value (component_of v.value number) (slice_get v.words)) {x = 0 + p.offset} {y = p.offset} (omega arith) (component_has injection t number v.value (slice_get v.words) 0 p is v.holds) in
    let many : length v.words ≡ weight_of r = v.sized ∙ sym (ap weight_of v.is_structure) in
    let given : given_by (Some p.type_value) (component_of v.value number) ≡ meaning_of.part_of r number
    = ap (λ x. given_by x (component_of v.value number)) (sym (component_type-is t number p is)) ∙ ap (λ x. meaning_of.part_of x number) (sym v.is_structure) in
    subst (λ n. ReadsResult layout G Here (at place operands memory s.trace) n run_error.UNDEFINED_VALUE (unit_in G memory.frames) i.line (place + 1) (λ x. Inside untouched injection memory (OnTop k below x)) s (meaning_of.part_of r number)) many
    (subst (λ x. ReadsResult layout G Here (at place operands memory s.trace) (length v.words) run_error.UNDEFINED_VALUE (unit_in G memory.frames) i.line (place + 1) (λ x. Inside untouched injection memory (OnTop k below x)) s x) given
    (found_left layout G i place operands below injection memory k p.type_value of_kind (part_bare t number p v.bare is) c described v.words p.offset fits leaves (component_of v.value number) holds s matches known))

module _ (layout : Layout) (G : Image) (place line : ℕ) (below : List Operand) (injection : Injection) (memory : MachineMemory) where
  -- `Field`, of a record
  pub field_part : {untouched : Slots} {Here : Facts} (ts : ComponentTypes) (r : Result) (o : Operand) → IsStructure (type.Record ts) r injection memory o
      → (number : ℕ) (of : TypeValue) → type_among ts number ≡ Some of → (k : ValueKind) → IsTypeOfKind k of
      → slice_get G.instructions place ≡ Some (instr op.FIELD (pos number) 0 line)
      → (s : meaning.State) → Matches layout G injection s memory → Here injection s memory
      → ReadsResult layout G Here (at place (o ∷ below) memory s.trace) (weight_of r) run_error.UNDEFINED_VALUE (unit_in G memory.frames) line (place + 1) (λ x. Inside untouched injection memory (OnTop k below x)) s (meaning_of.part_of r number)
  field_part ts r o v number of among k of_kind has s matches known =
      let i : Instr = instr op.FIELD (pos number) 0 line in
      let component : IsAmong 0 ts number of = among_there 0 ts number of among in
      let part : TypePart = component.part in
      let parts = v.described in
      let entered : IsBareThere memory.types parts.0 number part = bare_there memory.types 0 parts.0 ts number part parts.2 component.is in
      part_left layout G i place (o ∷ below) below injection memory (type.Record ts) r o v number part component.is k (subst (IsTypeOfKind k) (sym component.type_is) of_kind) entered.entered.type_number entered.form
      (λ trace.
      ap (λ x. outcome G (at place (x ∷ below) memory trace)) v.is
      ∙ (outcome_at G i place (operand.Value v.type_number v.words ∷ below) memory trace has
      ∙ rw (parts.1, entered.is) (ap (λ n. working G i (at place (operand.Value v.type_number v.words ∷ below) memory trace) (row.part_at memory.types v.words n entered.entered.type_number below)) entered.offset
      ∙ ap (λ x. working G i (at place (x ∷ below) memory trace) (row.part_at memory.types v.words part.offset entered.entered.type_number below)) (sym v.is))))
      s matches known

  -- `Defined`, of the record of a tag: whether the tag has a value
  pub defined_part : (low high : ℤ) (r : Result) (o : Operand) → IsStructure (tag_type low high) r injection memory o → slice_get G.instructions place ≡ Some (instr op.DEFINED (pos 0) 0 line)
      → (trace : Trace) → outcome G (at place (o ∷ below) memory trace) ≡ record { weight = 0; to = Running 0 (at (place + 1) (operand.Word (bit (is_some (meaning_of.part_of r 0))) ∷ below) memory trace) }
  defined_part low high r o v has trace = go (component_of v.value 0) refl (v.holds).0
    where
      tells : (w : ℤ) → slice_get v.words 0 ≡ Some w → outcome G (at place (o ∷ below) memory trace) ≡ record { weight = 0; to = Running 0 (at (place + 1) (operand.Word (bit (int_lt undefined w)) ∷ below) memory trace) }
      tells w there =
          ap (λ x. outcome G (at place (x ∷ below) memory trace)) v.is
          ∙ (outcome_at G (instr op.DEFINED (pos 0) 0 line) place (operand.Value v.type_number v.words ∷ below) memory trace has ∙ rw ((v.described).1, there) refl)

      given : (c : Value) → component_of v.value 0 ≡ c → meaning_of.part_of r 0 ≡ option_map Number (word_of c)
      given c is = ap (λ x. meaning_of.part_of x 0) v.is_structure ∙ ap (λ x. option_map Number (word_of x)) is

      go : (c : Value) → component_of v.value 0 ≡ c → OrdinalAt low high c (slice_get v.words 0)
          → outcome G (at place (o ∷ below) memory trace) ≡ record { weight = 0; to = Running 0 (at (place + 1) (operand.Word (bit (is_some (meaning_of.part_of r 0))) ∷ below) memory trace) }
      go Undefined is word = let none : meaning_of.part_of r 0 ≡ None = given Undefined is in tells undefined word.is ∙ rw none refl
      go (meaning.Components of) is word = absurd word.is
      go (meaning.Members ms) is word = absurd word.is
      go (meaning.Word w) is word =
          let there = word.is in
          let found : int_lt undefined w ≡ true = word_defined low high w word.low_fits there.1 in
          let some : meaning_of.part_of r 0 ≡ Some (Number w) = given (meaning.Word w) is in
          tells w there.0 ∙ rw (some, found) refl

  module _ (low high : ℤ) (of : TypeValue) (r : Result) (o : Operand) (v : IsStructure (type.Array low high of) r injection memory o) (z : ℤ) (has : slice_get G.instructions place ≡ Some (instr op.INDEX (pos 0) 0 line)) where
    component_entry : (e : TypeEntry) × (slice_get memory.types (v.described).0 ≡ Some e) × (e.size ≡ size_of of)
    component_entry = let e = bare_entry memory.types (v.described).0 of (v.described).2 in (e.0, e.1, entry_size memory.types of e.0 e.2)

    -- what it leads to by the number of the component
    index_outcome : (at_number : Option ℕ) → component_at low high z ≡ at_number → (trace : Trace)
        → outcome G (at place (operand.Word z ∷ o ∷ below) memory trace) ≡ working G (instr op.INDEX (pos 0) 0 line) (at place (operand.Word z ∷ o ∷ below) memory trace) (row.element_of memory.types v.words (v.described).0 (size_of of) at_number below)
    index_outcome at_number is trace =
        let i : Instr = instr op.INDEX (pos 0) 0 line in
        ap (λ x. outcome G (at place (operand.Word z ∷ x ∷ below) memory trace)) v.is
        ∙ (outcome_at G i place (operand.Word z ∷ operand.Value v.type_number v.words ∷ below) memory trace has
        ∙ rw ((v.described).1, component_entry.1, is)
        (ap (λ n. working G i (at place (operand.Word z ∷ operand.Value v.type_number v.words ∷ below) memory trace) (row.element_of memory.types v.words (v.described).0 n at_number below)) component_entry.2
        ∙ ap (λ x. working G i (at place (operand.Word z ∷ x ∷ below) memory trace) (row.element_of memory.types v.words (v.described).0 (size_of of) at_number below)) (sym v.is)))

    -- `Index`, of an array, where the index is outside of its bounds
    pub index_part_fails : component_at low high z ≡ None → (s : meaning.State)
        → FailsWith G (at place (operand.Word z ∷ o ∷ below) memory s.trace) (weight_of r) run_error.INDEX (unit_in G memory.frames) line s
    index_part_fails outside s =
        let many : length v.words ≡ weight_of r = v.sized ∙ sym (ap weight_of v.is_structure) in
        record { fails = index_outcome None outside s.trace ∙ ap (λ n. record { weight = n; to = Stopped (Error run_error.INDEX (unit_in G memory.frames) line) s.trace }) many }

    -- and where it is within them
    pub index_part : {untouched : Slots} {Here : Facts} (number : ℕ) → component_at low high z ≡ Some number → (k : ValueKind) → IsTypeOfKind k of
        → (s : meaning.State) → Matches layout G injection s memory → Here injection s memory
        → ReadsResult layout G Here (at place (operand.Word z ∷ o ∷ below) memory s.trace) (weight_of r) run_error.UNDEFINED_VALUE (unit_in G memory.frames) line (place + 1) (λ x. Inside untouched injection memory (OnTop k below x)) s (meaning_of.part_of r number)
    index_part number is k of_kind s matches known =
        let part : TypePart = record { offset = number * size_of of; type_value = of } in
        let less : number < count_of low high = is_within_count (count_of low high) (gap low z) number is in
        part_left layout G (instr op.INDEX (pos 0) 0 line) place (operand.Word z ∷ o ∷ below) below injection memory (type.Array low high of) r o v number part (ap (λ b. cond b (Some part) None) (less_true number (count_of low high) less)) k of_kind (v.described).0 (v.described).2
        (λ trace. index_outcome (Some number) is trace) s matches known
