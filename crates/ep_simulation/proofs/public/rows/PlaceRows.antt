-- What the rows on places and variables lead to, where the machine matches.
use Rattle.std.proofs.Common.{◌≡◌, ℕ, ℤ, pos, negsuc, ◌+◌, ◌≤◌, ◌<◌, true, false, List, ◌∷◌, length, option_map, Option, Some, None, slice_get, refl, sym, ap, ◌∙◌, subst, arith}
use Rattle.std.proofs.lemmas.Option.{same_Some}
use Rattle.std.specs.Prelude.{int_lt, is_some}
use Rattle.ep_simulation.specs.Follows.{IsStructure, Facts, OnTop, PlaceOnTop, Inside}
use Rattle.ep_simulation.specs.Layouts.{Layout}
use Rattle.ep_simulation.specs.Matching.{MachineMemory, at, Injection, MatchesSlot, MatchesFrame, IsBare, IsLike, IsSpot, HasAt, OrdinalAt, SetAt, part_along, all_of, Represents, HasType, Matches, Slots}
use Rattle.ep_object.specs.Operands.{Operand, Word}
use Rattle.ep_object.specs.Operands as operand
use Rattle.ep_object.specs.Places.{loaded, set_loaded}
use Rattle.ep_simulation.specs.Promises.{IsValueOf}
use Rattle.ep_object.specs.Sets.{set_size}
use Rattle.ep_object.specs.Runs.{outcome, after, unit_in}
use Rattle.ep_object.specs.State.{Running, bare_number, undefined, output_place}
use Rattle.ep_object.specs.Table.{on_operands}
use Rattle.ep_object.specs.WordRows.{bit}
use Rattle.ep_object.specs.declared.code.Image.{Image}
use Rattle.ep_object.specs.declared.code.ImageUnit.{ImageUnit}
use Rattle.ep_object.specs.declared.state.Place.{Place}
use Rattle.ep_simulation.proofs.public.following.Choices.{Reads, Misses, Finds, ReadsResult, Nothing, Result_of}
use Rattle.ep_simulation.proofs.public.following.Fragments.{Does, FailsWith}
use Rattle.ep_simulation.proofs.public.matching.MoreMemory.{inside_here}
use Rattle.ep_simulation.proofs.public.rows.Rows.{instr, in_one, RowPushes, outcome_at}
use Rattle.ep_simulation.proofs.public.matching.BareValues.{own_bare, result_by, structure_given}
use Rattle.ep_simulation.proofs.matching.Likes.{like_array, like_one, like_ordinal, like_record, like_set}
use Rattle.ep_meaning.proofs.public.Bares.{bare_size}
use Rattle.ep_simulation.proofs.matching.Values.{taken, taken_length, taken_there, taken_holds, part_fits}
use Rattle.ep_simulation.proofs.public.matching.Standing.{slice_get-some, Stands, place_stands, StandsOrdinal, ordinal_stands, place_ended, type_of_variable, within_host, word_defined}
use Rattle.ep_values.specs.Events.{Trace}
use Rattle.ep_simulation.proofs.matching.SetValues.{members_loaded, undefined_loaded}
use Rattle.ep_values.specs.Printing.{Number, Structure, Members, Result}
use Rattle.ep_meaning.specs.Steps.{Component, has_ended, type_at, value_at, value_in, Allocation, allocation_at}
use Rattle.ep_values.specs.Values.{value_along, Value, Undefined, set_of, word_of}
use Rattle.ep_meaning.specs.Results.{result_of, weight_of}
use Rattle.ep_meaning.specs.Steps as meaning
use Rattle.ep_meaning.specs.Valid as kind
use Rattle.ep_meaning.specs.Valid.{IsStructured, IsTypeOf, IsTypeOfKind, ValueKind}
use Rattle.ep_typed.specs.Hosts.{Host}
use Rattle.ep_values.specs.TypeValues.{TypeValue, bare_of, size_of}
use Rattle.ep_values.specs.TypeValues as type
use Rattle.ep_typed.specs.declared.unit.UnitVariable.{UnitVariable}
use Rattle.ep_object.specs.declared.op.TheConstants as op

-- ---- the result that a variable gives

ordinal_result : (low high : ℤ) (v : Component) (p : Place) (s : meaning.State) (a : Allocation)
    → allocation_at s.allocations v.allocation ≡ Some a → part_along (Some (all_of (bare_of a.type_value))) v.path ≡ Some (record { offset = p.offset; type_value = type.Ordinal low high })
    → result_of v s ≡ option_map Number (word_of (value_along a.value v.path))
ordinal_result low high v p s a is leads =
    result_by (type.Ordinal low high) v s (type_of_variable (type.Ordinal low high) v p.offset s a is leads) ∙ ap (λ o. option_map Number (word_of (value_in o v.path))) is

set_result : (low high : ℤ) (v : Component) (p : Place) (s : meaning.State) (a : Allocation)
    → allocation_at s.allocations v.allocation ≡ Some a → part_along (Some (all_of (bare_of a.type_value))) v.path ≡ Some (record { offset = p.offset; type_value = type.Set low high })
    → result_of v s ≡ option_map Members (set_of (value_along a.value v.path))
set_result low high v p s a is leads =
    result_by (type.Set low high) v s (type_of_variable (type.Set low high) v p.offset s a is leads) ∙ ap (λ o. option_map Members (set_of (value_in o v.path))) is

structure_result : (t : TypeValue) (v : Component) (p : Place) (s : meaning.State) (a : Allocation) → IsStructured t
    → allocation_at s.allocations v.allocation ≡ Some a → part_along (Some (all_of (bare_of a.type_value))) v.path ≡ Some (record { offset = p.offset; type_value = t })
    → result_of v s ≡ Some (Structure t (value_along a.value v.path))
structure_result t v p s a structured is leads =
    let of : option_map bare_of (type_at v s) ≡ Some t = type_of_variable t v p.offset s a is leads in
    result_by t v s of
    ∙ (structure_given t (value_at v s) structured
    ∙ (ap (λ u. Some (Structure u (value_at v s))) (own_bare t (type_at v s) of) ∙ ap (λ o. Some (Structure t (value_in o v.path))) is))

module _ (layout : Layout) (G : Image) (place line : ℕ) (below : List Operand) where
  -- `Unit`, for `output`
  pub output_pushes : slice_get G.instructions place ≡ Some (instr op.UNIT (negsuc 0) 1 line)
      → RowPushes G place below 0 (operand.Place output_place ∷ below)
  output_pushes has memory trace = outcome_at G (instr op.UNIT (negsuc 0) 1 line) place below memory trace has

  -- `Unit`, for a variable that is declared
  pub unit_reads : {untouched : Slots} {Here : Facts} (u k : ℕ) (unit : ImageUnit) (v : UnitVariable) (t : TypeValue)
      → slice_get G.instructions place ≡ Some (instr op.UNIT (pos u) k line) → slice_get G.units u ≡ Some unit
      → k < unit.slots → layout.variables unit.name k ≡ Some v → HasType layout unit.name v t
      → (injection : Injection) (memory : MachineMemory) (s : meaning.State) → Matches layout G injection s memory
      → Here injection s memory
      → Reads layout G Here (at place below memory s.trace) 1 (unit_in G memory.frames) line (place + 1) (λ n. Inside untouched injection memory (PlaceOnTop t below n)) s (s.variables unit.name k)
  unit_reads {untouched = untouched} {Here = Here} u k unit v t has there inside is_declared has_type injection memory s matches known =
      let units = matches.units in
      let f : MatchesFrame layout injection s.variables memory.frames.units memory.types u unit = units.frames u unit there in
      let x = slice_get-some f.slots k (omega (arith, f.count)) in
      go f.slots f.is x.0 x.1 (λ p slot_is. f.described k v p t is_declared slot_is has_type) (s.variables unit.name k) refl (f.matches k v x.0 is_declared x.1)
    where
      go : (slots : List (Option Place)) → slice_get memory.frames.units u ≡ Some slots → (slot : Option Place)
          → slice_get slots k ≡ Some slot
          → ((p : Place) → slice_get slots k ≡ Some (Some p) → IsLike memory.types p.type_number t) → (o : Option Component) → s.variables unit.name k ≡ o
          → MatchesSlot injection memory.types o slot
          → Reads layout G Here (at place below memory s.trace) 1 (unit_in G memory.frames) line (place + 1) (λ n. Inside untouched injection memory (PlaceOnTop t below n)) s (s.variables unit.name k)
      go slots is None slot_is described None o_is h =
          Misses o_is (record { fails = outcome_at G (instr op.UNIT (pos u) k line) place below memory s.trace has ∙ rw (is, slot_is) refl })
      go slots is (Some p) slot_is described None o_is h = absurd h
      go slots is None slot_is described (Some n) o_is h = absurd h
      go slots is (Some p) slot_is described (Some n) o_is h =
          Finds n o_is (record {
            injection = injection;
            memory = memory;
            operands = operand.Place p ∷ below;
            does = outcome_at G (instr op.UNIT (pos u) k line) place below memory s.trace has ∙ rw (is, slot_is) refl;
            matches = matches;
            here = known;
            post = inside_here (record { place = p; is = refl; spot = h; described = described p slot_is });
          })

  -- what `Load` finds
  load_outcome : (memory : MachineMemory) (trace : Trace) (p : Place) (low high : ℤ) (type_number : ℕ) (words : List ℤ) (w : ℤ)
      → slice_get G.instructions place ≡ Some (instr op.LOAD (pos 0) 0 line)
      → IsLike memory.types p.type_number (type.Ordinal low high)
      → slice_get memory.segments p.segment ≡ Some (Some (record { type_number = type_number; words = words }))
      → slice_get words p.offset ≡ Some w
      → outcome G (at place (operand.Place p ∷ below) memory trace) ≡ in_one (after G (instr op.LOAD (pos 0) 0 line) (at place (operand.Place p ∷ below) memory trace) (on_operands (at place (operand.Place p ∷ below) memory trace) (loaded w below)))
  load_outcome memory trace p low high type_number words w has typed stands there =
      let e = like_ordinal memory.types p.type_number low high typed in
      outcome_at G (instr op.LOAD (pos 0) 0 line) place (operand.Place p ∷ below) memory trace has ∙ rw (e.2, stands, there) refl

  -- what it finds of an array or a record: its words, with the number of its bare form
  structure_outcome : (memory : MachineMemory) (trace : Trace) (p : Place) (t : TypeValue) (type_number : ℕ) (words : List ℤ) → IsStructured t
      → slice_get G.instructions place ≡ Some (instr op.LOAD (pos 0) 0 line)
      → IsLike memory.types p.type_number t
      → slice_get memory.segments p.segment ≡ Some (Some (record { type_number = type_number; words = words }))
      → (fits : p.offset + size_of t ≤ length words)
      → (b : ℕ) × IsBare memory.types b t × (outcome G (at place (operand.Place p ∷ below) memory trace) ≡ record { weight = size_of t; to = Running 0 (at (place + 1) (operand.Value b (taken words p.offset (size_of t) fits) ∷ below) memory trace) })
  structure_outcome memory trace p (type.Ordinal low high) type_number words structured has described stands fits = absurd structured
  structure_outcome memory trace p type.Text type_number words structured has described stands fits = absurd structured
  structure_outcome memory trace p (type.Set low high) type_number words structured has described stands fits = absurd structured
  structure_outcome memory trace p (type.Initial of start) type_number words structured has described stands fits = absurd structured
  structure_outcome memory trace p (type.Array low high of) type_number words structured has described stands fits =
      let e = like_array memory.types p.type_number low high of described in
      let b : ℕ = bare_number p.type_number e.bare in
      let size : ℕ = size_of (type.Array low high of) in (
        b,
        e.form,
        outcome_at G (instr op.LOAD (pos 0) 0 line) place (operand.Place p ∷ below) memory trace has ∙ rw (e.stands, stands, taken_there words p.offset size fits)
            (ap (λ n. record { weight = n; to = Running 0 (at (place + 1) (operand.Value b (taken words p.offset size fits) ∷ below) memory trace) }) (taken_length words p.offset size fits)),
      )
  structure_outcome memory trace p (type.Record ts) type_number words structured has described stands fits =
      let e = like_record memory.types p.type_number ts described in
      let b : ℕ = bare_number p.type_number e.bare in
      let size : ℕ = size_of (type.Record ts) in (
        b,
        e.form,
        outcome_at G (instr op.LOAD (pos 0) 0 line) place (operand.Place p ∷ below) memory trace has ∙ rw (e.stands, stands, taken_there words p.offset size fits)
            (ap (λ n. record { weight = n; to = Running 0 (at (place + 1) (operand.Value b (taken words p.offset size fits) ∷ below) memory trace) }) (taken_length words p.offset size fits)),
      )

  -- `Load`, of a variable that has ended
  pub load_fails : (k : ValueKind) (t : TypeValue) (v : Component) (p : Place) → IsTypeOfKind k t
      → slice_get G.instructions place ≡ Some (instr op.LOAD (pos 0) 0 line)
      → (injection : Injection) (memory : MachineMemory) → IsSpot injection memory.types v p
      → IsLike memory.types p.type_number t → (s : meaning.State)
      → Matches layout G injection s memory → has_ended v.allocation s ≡ true
      → FailsWith G (at place (operand.Place p ∷ below) memory s.trace) 0 11 (unit_in G memory.frames) line s
  load_fails k (type.Ordinal low high) v p of_kind has injection memory spot described s matches ended =
      let e = like_ordinal memory.types p.type_number low high described in
      record { fails = outcome_at G (instr op.LOAD (pos 0) 0 line) place (operand.Place p ∷ below) memory s.trace has ∙ rw (e.2, place_ended matches spot ended) refl }
  load_fails (kind.Ordinal h) type.Text v p of_kind has injection memory spot described s matches ended = absurd of_kind
  load_fails (kind.Set h) type.Text v p of_kind has injection memory spot described s matches ended = absurd of_kind
  load_fails k (type.Set low high) v p of_kind has injection memory spot described s matches ended =
      let e = like_set memory.types p.type_number low high described in
      record { fails = outcome_at G (instr op.LOAD (pos 0) 0 line) place (operand.Place p ∷ below) memory s.trace has ∙ rw (e.2, place_ended matches spot ended) refl }
  load_fails (kind.Ordinal h) (type.Initial of start) v p of_kind has injection memory spot described s matches ended = absurd of_kind
  load_fails (kind.Set h) (type.Initial of start) v p of_kind has injection memory spot described s matches ended = absurd of_kind
  load_fails kind.Bytes (type.Initial of start) v p of_kind has injection memory spot described s matches ended = absurd of_kind
  load_fails (kind.Structured u) (type.Initial of start) v p (same, structured) has injection memory spot described s matches ended = absurd (subst IsStructured same structured)
  load_fails kind.Bytes type.Text v p of_kind has injection memory spot described s matches ended = absurd of_kind
  load_fails (kind.Structured u) type.Text v p (same, structured) has injection memory spot described s matches ended = absurd (subst IsStructured same structured)
  load_fails k (type.Array low high of) v p of_kind has injection memory spot described s matches ended =
      let e = like_array memory.types p.type_number low high of described in
      record { fails = outcome_at G (instr op.LOAD (pos 0) 0 line) place (operand.Place p ∷ below) memory s.trace has ∙ rw (e.stands, place_ended matches spot ended) refl }
  load_fails k (type.Record ts) v p of_kind has injection memory spot described s matches ended =
      let e = like_record memory.types p.type_number ts described in
      record { fails = outcome_at G (instr op.LOAD (pos 0) 0 line) place (operand.Place p ∷ below) memory s.trace has ∙ rw (e.stands, place_ended matches spot ended) refl }

  -- `Load`, of a variable of an ordinal type of the host, which lives
  word_reads : {untouched : Slots} {Here : Facts} (host : Host) (low high : ℤ) (v : Component) (p : Place)
      → IsTypeOf host (type.Ordinal low high)
      → slice_get G.instructions place ≡ Some (instr op.LOAD (pos 0) 0 line)
      → (injection : Injection) (memory : MachineMemory) → IsSpot injection memory.types v p
      → IsLike memory.types p.type_number (type.Ordinal low high) → (s : meaning.State)
      → Matches layout G injection s memory → Here injection s memory → has_ended v.allocation s ≡ false
      → ReadsResult layout G Here (at place (operand.Place p ∷ below) memory s.trace) 0 1 (unit_in G memory.frames) line (place + 1) (λ r. Inside untouched injection memory (OnTop (kind.Ordinal host) below r)) s (result_of v s)
  word_reads {untouched = untouched} {Here = Here} host low high v p of_host has injection memory spot described s matches known living =
      let x : StandsOrdinal injection s memory v p low high = ordinal_stands low high matches spot described living in
      let a : Allocation = x.allocation in
      let r : Represents injection memory.segments memory.types p.segment a = x.represents in
      go (value_along a.value v.path) refl (ordinal_result low high v p s a x.is x.leads) r.type_number r.words r.stands x.word
    where
      go : (value : Value) → {value2 : Value} → value2 ≡ value → result_of v s ≡ option_map Number (word_of value2) → (type_number : ℕ) (words : List ℤ)
          → slice_get memory.segments p.segment ≡ Some (Some (record { type_number = type_number; words = words }))
          → OrdinalAt low high value (slice_get words p.offset)
          → ReadsResult layout G Here (at place (operand.Place p ∷ below) memory s.trace) 0 1 (unit_in G memory.frames) line (place + 1) (λ r. Inside untouched injection memory (OnTop (kind.Ordinal host) below r)) s (result_of v s)
      go Undefined value_is result_is type_number words stands word =
          Nothing (result_is ∙ ap (λ x. option_map Number (word_of x)) value_is) (record { fails = load_outcome memory s.trace p low high type_number words undefined has described stands word.is })
      go (meaning.Components of) value_is result_is type_number words stands word = absurd word.is
      go (meaning.Members ms) value_is result_is type_number words stands word = absurd word.is
      go (meaning.Word w) value_is result_is type_number words stands word =
          let at_place = word.is in
          let found : int_lt undefined w ≡ true = word_defined low high w word.low_fits at_place.1 in
          Result_of (Number w) (result_is ∙ ap (λ x. option_map Number (word_of x)) value_is) 0 (omega arith) (record {
            injection = injection;
            memory = memory;
            operands = Word w ∷ below;
            does = load_outcome memory s.trace p low high type_number words w has described stands at_place.0 ∙ rw found refl;
            matches = matches;
            here = known;
            post = inside_here (record { number = w; is_number = refl; of_host = within_host host low high w of_host at_place.1; is = refl });
          })

  -- Of one of an array or record type, which lives: all of it is there, and memory stays as it is.
  pub structure_loads : (t : TypeValue) (v : Component) (p : Place) → IsStructured t
      → slice_get G.instructions place ≡ Some (instr op.LOAD (pos 0) 0 line)
      → (injection : Injection) (memory : MachineMemory) → IsSpot injection memory.types v p
      → IsLike memory.types p.type_number t → (s : meaning.State)
      → Matches layout G injection s memory → has_ended v.allocation s ≡ false
      → (value : Value) × (result_of v s ≡ Some (Structure t value)) × (o : Operand) × IsStructure t (Structure t value) injection memory o
      × (outcome G (at place (operand.Place p ∷ below) memory s.trace) ≡ record { weight = size_of t; to = Running 0 (at (place + 1) (o ∷ below) memory s.trace) })
  structure_loads t v p structured has injection memory spot described s matches living =
      let x : Stands injection s memory v p = place_stands matches spot living in
      let a : Allocation = x.allocation in
      let r : Represents injection memory.segments memory.types p.segment a = x.represents in
      let its_type : x.type_value ≡ t = like_one memory.types p.type_number x.type_value t x.described described in
      let leads : part_along (Some (all_of (bare_of a.type_value))) v.path ≡ Some (record { offset = p.offset; type_value = t }) = subst (λ u. part_along (Some (all_of (bare_of a.type_value))) v.path ≡ Some (record { offset = p.offset; type_value = u })) its_type x.leads in
      let holds : HasAt injection t (value_along a.value v.path) (slice_get r.words) p.offset = subst (λ u. HasAt injection u (value_along a.value v.path) (slice_get r.words) p.offset) its_type x.holds in
      let fits : p.offset + size_of t ≤ length r.words = (let within = part_fits (bare_of a.type_value) v.path (record { offset = p.offset; type_value = t }) leads in omega (arith, within, r.sized, bare_size a.type_value)) in
      let o = structure_outcome memory s.trace p t r.type_number r.words structured has described r.stands fits in (
        value_along a.value v.path,
        structure_result t v p s a structured x.is leads,
        operand.Value o.0 (taken r.words p.offset (size_of t) fits),
        record {
          value = value_along a.value v.path;
          is_structure = refl;
          type_number = o.0;
          words = taken r.words p.offset (size_of t) fits;
          is = refl;
          bare = own_bare t (type_at v s) (type_of_variable t v p.offset s a x.is leads);
          described = o.1;
          sized = taken_length r.words p.offset (size_of t) fits;
          holds = taken_holds r.words p.offset (size_of t) fits injection t (value_along a.value v.path) refl holds;
        },
        o.2,
      )

  -- the same with what is known of memory
  pub structure_found : {untouched : Slots} {Here : Facts} (t : TypeValue) (v : Component) (p : Place) → IsStructured t
      → slice_get G.instructions place ≡ Some (instr op.LOAD (pos 0) 0 line)
      → (injection : Injection) (memory : MachineMemory) → IsSpot injection memory.types v p
      → IsLike memory.types p.type_number t → (s : meaning.State)
      → Matches layout G injection s memory → Here injection s memory → has_ended v.allocation s ≡ false
      → (value : Value) × (result_of v s ≡ Some (Structure t value)) × Does layout G Here (at place (operand.Place p ∷ below) memory s.trace) (size_of t) (place + 1) (Inside untouched injection memory (OnTop (kind.Structured t) below (Structure t value))) s
  structure_found t v p structured has injection memory spot described s matches known living =
      let x = structure_loads t v p structured has injection memory spot described s matches living in (
        x.0,
        x.1,
        record {
          injection = injection;
          memory = memory;
          operands = x.2 ∷ below;
          does = x.4;
          matches = matches;
          here = known;
          post = inside_here (record { operand = x.2; holds = x.3; is = refl });
        },
      )

  -- what it finds of a set
  set_outcome : (memory : MachineMemory) (trace : Trace) (p : Place) (low high : ℤ) (type_number : ℕ) (words : List ℤ)
      → slice_get G.instructions place ≡ Some (instr op.LOAD (pos 0) 0 line)
      → IsLike memory.types p.type_number (type.Set low high)
      → slice_get memory.segments p.segment ≡ Some (Some (record { type_number = type_number; words = words }))
      → (fits : p.offset + set_size ≤ length words)
      → outcome G (at place (operand.Place p ∷ below) memory trace) ≡ in_one (after G (instr op.LOAD (pos 0) 0 line) (at place (operand.Place p ∷ below) memory trace) (on_operands (at place (operand.Place p ∷ below) memory trace) (set_loaded (taken words p.offset set_size fits) below)))
  set_outcome memory trace p low high type_number words has typed stands fits =
      let e = like_set memory.types p.type_number low high typed in
      outcome_at G (instr op.LOAD (pos 0) 0 line) place (operand.Place p ∷ below) memory trace has ∙ rw (e.2, stands, taken_there words p.offset set_size fits) refl

  -- of one of a set type, which lives
  set_reads : {untouched : Slots} {Here : Facts} (host : Host) (low high : ℤ) (v : Component) (p : Place)
      → slice_get G.instructions place ≡ Some (instr op.LOAD (pos 0) 0 line)
      → (injection : Injection) (memory : MachineMemory) → IsSpot injection memory.types v p
      → IsLike memory.types p.type_number (type.Set low high) → (s : meaning.State)
      → Matches layout G injection s memory → Here injection s memory → has_ended v.allocation s ≡ false
      → ReadsResult layout G Here (at place (operand.Place p ∷ below) memory s.trace) 0 1 (unit_in G memory.frames) line (place + 1) (λ r. Inside untouched injection memory (OnTop (kind.Set host) below r)) s (result_of v s)
  set_reads {untouched = untouched} {Here = Here} host low high v p has injection memory spot described s matches known living =
      let x : Stands injection s memory v p = place_stands matches spot living in
      let a : Allocation = x.allocation in
      let r : Represents injection memory.segments memory.types p.segment a = x.represents in
      let its_type : x.type_value ≡ type.Set low high = like_one memory.types p.type_number x.type_value (type.Set low high) x.described described in
      let leads : part_along (Some (all_of (bare_of a.type_value))) v.path ≡ Some (record { offset = p.offset; type_value = type.Set low high }) = subst (λ u. part_along (Some (all_of (bare_of a.type_value))) v.path ≡ Some (record { offset = p.offset; type_value = u })) its_type x.leads in
      let holds : HasAt injection (type.Set low high) (value_along a.value v.path) (slice_get r.words) p.offset = subst (λ u. HasAt injection u (value_along a.value v.path) (slice_get r.words) p.offset) its_type x.holds in
      let fits : p.offset + set_size ≤ length r.words = (let within = part_fits (bare_of a.type_value) v.path (record { offset = p.offset; type_value = type.Set low high }) leads in omega (arith, within, r.sized, bare_size a.type_value)) in
      go (value_along a.value v.path) (taken r.words p.offset set_size fits) (taken_length r.words p.offset set_size fits)
      (set_outcome memory s.trace p low high r.type_number r.words has described r.stands fits)
      (set_result low high v p s a x.is leads) (taken_holds r.words p.offset set_size fits injection (type.Set low high) (value_along a.value v.path) refl holds)
    where
      go : (value : Value) (own : List ℤ) → length own ≡ set_size
          → outcome G (at place (operand.Place p ∷ below) memory s.trace) ≡ in_one (after G (instr op.LOAD (pos 0) 0 line) (at place (operand.Place p ∷ below) memory s.trace) (on_operands (at place (operand.Place p ∷ below) memory s.trace) (set_loaded own below)))
          → result_of v s ≡ option_map Members (set_of value) → SetAt low high value (slice_get own) 0
          → ReadsResult layout G Here (at place (operand.Place p ∷ below) memory s.trace) 0 1 (unit_in G memory.frames) line (place + 1) (λ r. Inside untouched injection memory (OnTop (kind.Set host) below r)) s (result_of v s)
      go Undefined own many leads result_is held = Nothing result_is (record { fails = leads ∙ rw (undefined_loaded own below held) refl })
      go (meaning.Word w) own many leads result_is held = absurd held
      go (meaning.Components of) own many leads result_is held = absurd held
      go (meaning.Members ms) own many leads result_is held =
          Result_of (Members ms) result_is 0 (omega arith) (record {
            injection = injection;
            memory = memory;
            operands = operand.Set ms ∷ below;
            does = leads ∙ rw (members_loaded low high ms own below many held) refl;
            matches = matches;
            here = known;
            post = inside_here (record { members = ms; is_members = refl; is_set = held.is_set; is = refl });
          })

  -- of one of a type whose values are of the kind
  pub load_reads : {untouched : Slots} {Here : Facts} (k : ValueKind) (t : TypeValue) (v : Component) (p : Place) → IsTypeOfKind k t
      → slice_get G.instructions place ≡ Some (instr op.LOAD (pos 0) 0 line)
      → (injection : Injection) (memory : MachineMemory) → IsSpot injection memory.types v p
      → IsLike memory.types p.type_number t → (s : meaning.State)
      → Matches layout G injection s memory → Here injection s memory → has_ended v.allocation s ≡ false
      → ReadsResult layout G Here (at place (operand.Place p ∷ below) memory s.trace) 0 1 (unit_in G memory.frames) line (place + 1) (λ r. Inside untouched injection memory (OnTop k below r)) s (result_of v s)
  load_reads (kind.Ordinal h) (type.Ordinal low high) v p of_kind has injection memory spot described s matches known living = word_reads h low high v p of_kind has injection memory spot described s matches known living
  load_reads (kind.Ordinal h) type.Text v p of_kind has injection memory spot described s matches known living = absurd of_kind
  load_reads (kind.Ordinal h) (type.Array low high of) v p of_kind has injection memory spot described s matches known living = absurd of_kind
  load_reads (kind.Ordinal h) (type.Record ts) v p of_kind has injection memory spot described s matches known living = absurd of_kind
  load_reads (kind.Ordinal h) (type.Initial of start) v p of_kind has injection memory spot described s matches known living = absurd of_kind
  load_reads (kind.Ordinal h) (type.Set low high) v p of_kind has injection memory spot described s matches known living = absurd of_kind
  load_reads (kind.Set h) (type.Ordinal low high) v p of_kind has injection memory spot described s matches known living = absurd of_kind
  load_reads (kind.Set h) type.Text v p of_kind has injection memory spot described s matches known living = absurd of_kind
  load_reads (kind.Set h) (type.Array low high of) v p of_kind has injection memory spot described s matches known living = absurd of_kind
  load_reads (kind.Set h) (type.Record ts) v p of_kind has injection memory spot described s matches known living = absurd of_kind
  load_reads (kind.Set h) (type.Initial of start) v p of_kind has injection memory spot described s matches known living = absurd of_kind
  load_reads (kind.Set h) (type.Set low high) v p of_kind has injection memory spot described s matches known living = set_reads h low high v p has injection memory spot described s matches known living
  load_reads kind.Bytes t v p of_kind has injection memory spot described s matches known living = absurd of_kind
  load_reads (kind.Structured u) t v p (same, structured) has injection memory spot described s matches known living =
      let x = structure_found u v p structured has injection memory spot (subst (IsLike memory.types p.type_number) (sym same) described) s matches known living in
      Result_of (Structure u x.0) x.1 (size_of u) (omega arith) x.2

  -- what `Defined` finds
  defined_outcome : (memory : MachineMemory) (trace : Trace) (p : Place) (low high : ℤ) (type_number : ℕ) (words : List ℤ) (w : ℤ)
      → slice_get G.instructions place ≡ Some (instr op.DEFINED (pos 0) 0 line)
      → IsLike memory.types p.type_number (type.Ordinal low high)
      → slice_get memory.segments p.segment ≡ Some (Some (record { type_number = type_number; words = words }))
      → slice_get words p.offset ≡ Some w
      → outcome G (at place (operand.Place p ∷ below) memory trace) ≡ record { weight = 0; to = Running 0 (at (place + 1) (Word (bit (int_lt undefined w)) ∷ below) memory trace) }
  defined_outcome memory trace p low high type_number words w has typed stands there =
      let e = like_ordinal memory.types p.type_number low high typed in
      outcome_at G (instr op.DEFINED (pos 0) 0 line) place (operand.Place p ∷ below) memory trace has ∙ rw (e.2, stands, there) refl

  -- `Defined`, of a variable that has ended
  pub defined_fails : (low high : ℤ) (v : Component) (p : Place)
      → slice_get G.instructions place ≡ Some (instr op.DEFINED (pos 0) 0 line)
      → (injection : Injection) (memory : MachineMemory) → IsSpot injection memory.types v p
      → IsLike memory.types p.type_number (type.Ordinal low high) → (s : meaning.State)
      → Matches layout G injection s memory → has_ended v.allocation s ≡ true
      → FailsWith G (at place (operand.Place p ∷ below) memory s.trace) 0 11 (unit_in G memory.frames) line s
  defined_fails low high v p has injection memory spot described s matches ended =
      let e = like_ordinal memory.types p.type_number low high described in
      record { fails = outcome_at G (instr op.DEFINED (pos 0) 0 line) place (operand.Place p ∷ below) memory s.trace has ∙ rw (e.2, place_ended matches spot ended) refl }

  -- `Defined`, of a variable of an ordinal type that lives: whether it has a value
  pub defined_tells : (low high : ℤ) (v : Component) (p : Place)
      → slice_get G.instructions place ≡ Some (instr op.DEFINED (pos 0) 0 line)
      → (injection : Injection) (memory : MachineMemory) → IsSpot injection memory.types v p
      → IsLike memory.types p.type_number (type.Ordinal low high) → (s : meaning.State)
      → Matches layout G injection s memory → has_ended v.allocation s ≡ false
      → outcome G (at place (operand.Place p ∷ below) memory s.trace) ≡ record { weight = 0; to = Running 0 (at (place + 1) (Word (bit (is_some (result_of v s))) ∷ below) memory s.trace) }
  defined_tells low high v p has injection memory spot described s matches living =
      let x : StandsOrdinal injection s memory v p low high = ordinal_stands low high matches spot described living in
      let a : Allocation = x.allocation in
      let r : Represents injection memory.segments memory.types p.segment a = x.represents in
      go (ordinal_result low high v p s a x.is x.leads) r.type_number r.words (value_along a.value v.path) refl r.stands x.word
    where
      go : {value2 : Value} → result_of v s ≡ option_map Number (word_of value2) → (type_number : ℕ) (words : List ℤ) (value : Value)
          → value2 ≡ value
          → slice_get memory.segments p.segment ≡ Some (Some (record { type_number = type_number; words = words }))
          → OrdinalAt low high value (slice_get words p.offset)
          → outcome G (at place (operand.Place p ∷ below) memory s.trace) ≡ record { weight = 0; to = Running 0 (at (place + 1) (Word (bit (is_some (result_of v s))) ∷ below) memory s.trace) }
      go is type_number words Undefined value_is stands word =
          let none : result_of v s ≡ None = is ∙ ap (λ x. option_map Number (word_of x)) value_is in
          defined_outcome memory s.trace p low high type_number words undefined has described stands word.is ∙ rw none refl
      go is type_number words (meaning.Components of) value_is stands word = absurd word.is
      go is type_number words (meaning.Members ms) value_is stands word = absurd word.is
      go is type_number words (meaning.Word w) value_is stands word =
          let some : result_of v s ≡ Some (Number w) = is ∙ ap (λ x. option_map Number (word_of x)) value_is in
          let at_place = word.is in
          let found : int_lt undefined w ≡ true = word_defined low high w word.low_fits at_place.1 in
          defined_outcome memory s.trace p low high type_number words w has described stands at_place.0 ∙ rw (some, found) refl

  -- `Load`, of a variable of an ordinal type that lives and has a value: its number
  pub load_leads : (low high : ℤ) (v : Component) (p : Place)
      → slice_get G.instructions place ≡ Some (instr op.LOAD (pos 0) 0 line)
      → (injection : Injection) (memory : MachineMemory) → IsSpot injection memory.types v p
      → IsLike memory.types p.type_number (type.Ordinal low high) → (s : meaning.State)
      → Matches layout G injection s memory → has_ended v.allocation s ≡ false → (r : Result) → result_of v s ≡ Some r
      → (z : ℤ) × (r ≡ Number z) × (outcome G (at place (operand.Place p ∷ below) memory s.trace) ≡ record { weight = 0; to = Running 0 (at (place + 1) (Word z ∷ below) memory s.trace) })
  load_leads low high v p has injection memory spot described s matches living r result =
      let x : StandsOrdinal injection s memory v p low high = ordinal_stands low high matches spot described living in
      let a : Allocation = x.allocation in
      let t : Represents injection memory.segments memory.types p.segment a = x.represents in
      go (sym (ordinal_result low high v p s a x.is x.leads) ∙ result) t.type_number t.words (value_along a.value v.path) refl t.stands x.word
    where
      go : {value2 : Value} → option_map Number (word_of value2) ≡ Some r → (type_number : ℕ) (words : List ℤ) (value : Value)
          → value2 ≡ value
          → slice_get memory.segments p.segment ≡ Some (Some (record { type_number = type_number; words = words }))
          → OrdinalAt low high value (slice_get words p.offset)
          → (z : ℤ) × (r ≡ Number z) × (outcome G (at place (operand.Place p ∷ below) memory s.trace) ≡ record { weight = 0; to = Running 0 (at (place + 1) (Word z ∷ below) memory s.trace) })
      go is type_number words Undefined value_is stands word =
          let none : ◌≡◌ {A = Option Result} None (Some r) = sym (ap (λ x. option_map Number (word_of x)) value_is) ∙ is in cc
      go is type_number words (meaning.Components of) value_is stands word = absurd word.is
      go is type_number words (meaning.Members ms) value_is stands word = absurd word.is
      go is type_number words (meaning.Word w) value_is stands word =
          let some : Some (Number w) ≡ Some r = sym (ap (λ x. option_map Number (word_of x)) value_is) ∙ is in
          let at_place = word.is in
          let found : int_lt undefined w ≡ true = word_defined low high w word.low_fits at_place.1 in
          (w, same_Some r (Number w) (sym some), load_outcome memory s.trace p low high type_number words w has described stands at_place.0 ∙ rw found refl)

  -- Of one that is defined: its members, and memory stays as it is.
  set_leads : (low high : ℤ) (v : Component) (p : Place)
      → slice_get G.instructions place ≡ Some (instr op.LOAD (pos 0) 0 line)
      → (injection : Injection) (memory : MachineMemory) → IsSpot injection memory.types v p
      → IsLike memory.types p.type_number (type.Set low high) → (s : meaning.State)
      → Matches layout G injection s memory → has_ended v.allocation s ≡ false → (ns : List ℕ) → result_of v s ≡ Some (Members ns)
      → outcome G (at place (operand.Place p ∷ below) memory s.trace) ≡ record { weight = 0; to = Running 0 (at (place + 1) (operand.Set ns ∷ below) memory s.trace) }
  set_leads low high v p has injection memory spot described s matches living ns result =
      let x : Stands injection s memory v p = place_stands matches spot living in
      let a : Allocation = x.allocation in
      let r : Represents injection memory.segments memory.types p.segment a = x.represents in
      let its_type : x.type_value ≡ type.Set low high = like_one memory.types p.type_number x.type_value (type.Set low high) x.described described in
      let leads : part_along (Some (all_of (bare_of a.type_value))) v.path ≡ Some (record { offset = p.offset; type_value = type.Set low high }) = subst (λ u. part_along (Some (all_of (bare_of a.type_value))) v.path ≡ Some (record { offset = p.offset; type_value = u })) its_type x.leads in
      let holds : HasAt injection (type.Set low high) (value_along a.value v.path) (slice_get r.words) p.offset = subst (λ u. HasAt injection u (value_along a.value v.path) (slice_get r.words) p.offset) its_type x.holds in
      let fits : p.offset + set_size ≤ length r.words = (let within = part_fits (bare_of a.type_value) v.path (record { offset = p.offset; type_value = type.Set low high }) leads in omega (arith, within, r.sized, bare_size a.type_value)) in
      go (value_along a.value v.path) (taken r.words p.offset set_size fits) (taken_length r.words p.offset set_size fits)
      (set_outcome memory s.trace p low high r.type_number r.words has described r.stands fits)
      (sym (set_result low high v p s a x.is leads) ∙ result) (taken_holds r.words p.offset set_size fits injection (type.Set low high) (value_along a.value v.path) refl holds)
    where
      go : (value : Value) (own : List ℤ) → length own ≡ set_size
          → outcome G (at place (operand.Place p ∷ below) memory s.trace) ≡ in_one (after G (instr op.LOAD (pos 0) 0 line) (at place (operand.Place p ∷ below) memory s.trace) (on_operands (at place (operand.Place p ∷ below) memory s.trace) (set_loaded own below)))
          → option_map Members (set_of value) ≡ Some (Members ns) → SetAt low high value (slice_get own) 0
          → outcome G (at place (operand.Place p ∷ below) memory s.trace) ≡ record { weight = 0; to = Running 0 (at (place + 1) (operand.Set ns ∷ below) memory s.trace) }
      go Undefined own many leads is held = cc
      go (meaning.Word w) own many leads is held = absurd held
      go (meaning.Components of) own many leads is held = absurd held
      go (meaning.Members ms) own many leads is held =
          let same : ms ≡ ns = cc in
          leads ∙ rw (members_loaded low high ms own below many held) (ap (λ l. record { weight = 0; to = Running 0 (at (place + 1) (operand.Set l ∷ below) memory s.trace) }) same)

  -- Of one that gives a result of a kind, which other operands have too: an operand of it, and memory stays as it is.
  pub value_loads : (k : ValueKind) (t : TypeValue) (v : Component) (p : Place) → IsTypeOfKind k t
      → slice_get G.instructions place ≡ Some (instr op.LOAD (pos 0) 0 line)
      → (injection : Injection) (memory : MachineMemory) → IsSpot injection memory.types v p
      → IsLike memory.types p.type_number t → (s : meaning.State)
      → Matches layout G injection s memory → has_ended v.allocation s ≡ false
      → (r : Result) (earlier : Injection) (before : MachineMemory) (other : Operand) → IsValueOf earlier before k r other → result_of v s ≡ Some r
      → (o : Operand) × IsValueOf injection memory k r o × (outcome G (at place (operand.Place p ∷ below) memory s.trace) ≡ record { weight = weight_of r; to = Running 0 (at (place + 1) (o ∷ below) memory s.trace) })
  value_loads (kind.Ordinal h) (type.Ordinal low high) v p of_kind has injection memory spot described s matches living r earlier before other (z, r_is, of_host, o_is) result =
      let x = load_leads low high v p has injection memory spot described s matches living r result in
      let same : x.0 ≡ z = (let both : Number x.0 ≡ Number z = sym x.1 ∙ r_is in cc) in (
        Word z,
        (z, r_is, of_host, refl),
        x.2 ∙ (ap (λ w. record { weight = 0; to = Running 0 (at (place + 1) (Word w ∷ below) memory s.trace) }) same ∙ ap (λ n. record { weight = n; to = Running 0 (at (place + 1) (Word z ∷ below) memory s.trace) }) (sym (ap weight_of r_is))),
      )
  value_loads (kind.Ordinal h) type.Text v p of_kind has injection memory spot described s matches living r earlier before other is result = absurd of_kind
  value_loads (kind.Ordinal h) (type.Array low high of) v p of_kind has injection memory spot described s matches living r earlier before other is result = absurd of_kind
  value_loads (kind.Ordinal h) (type.Record ts) v p of_kind has injection memory spot described s matches living r earlier before other is result = absurd of_kind
  value_loads (kind.Ordinal h) (type.Set low high) v p of_kind has injection memory spot described s matches living r earlier before other is result = absurd of_kind
  value_loads (kind.Ordinal h) (type.Initial of start) v p of_kind has injection memory spot described s matches living r earlier before other is result = absurd of_kind
  value_loads (kind.Set h) (type.Set low high) v p of_kind has injection memory spot described s matches living r earlier before other (ms, r_is, is_set, o_is) result = (
    operand.Set ms,
    (ms, r_is, is_set, refl),
    set_leads low high v p has injection memory spot described s matches living ms (result ∙ ap (λ x. Some x) r_is) ∙ ap (λ n. record { weight = n; to = Running 0 (at (place + 1) (operand.Set ms ∷ below) memory s.trace) }) (sym (ap weight_of r_is)),
  )
  value_loads (kind.Set h) (type.Ordinal low high) v p of_kind has injection memory spot described s matches living r earlier before other is result = absurd of_kind
  value_loads (kind.Set h) type.Text v p of_kind has injection memory spot described s matches living r earlier before other is result = absurd of_kind
  value_loads (kind.Set h) (type.Array low high of) v p of_kind has injection memory spot described s matches living r earlier before other is result = absurd of_kind
  value_loads (kind.Set h) (type.Record ts) v p of_kind has injection memory spot described s matches living r earlier before other is result = absurd of_kind
  value_loads (kind.Set h) (type.Initial of start) v p of_kind has injection memory spot described s matches living r earlier before other is result = absurd of_kind
  value_loads kind.Bytes t v p of_kind has injection memory spot described s matches living r earlier before other is result = absurd of_kind
  value_loads (kind.Structured u) t v p (same, structured) has injection memory spot described s matches living r earlier before other is result =
      let x = structure_loads u v p structured has injection memory spot (subst (IsLike memory.types p.type_number) (sym same) described) s matches living in
      let r_is : Structure u x.0 ≡ r = same_Some (Structure u x.0) r (sym x.1 ∙ result) in (
        x.2,
        subst (λ y. IsStructure u y injection memory x.2) r_is x.3,
        x.4 ∙ ap (λ y. record { weight = weight_of y; to = Running 0 (at (place + 1) (x.2 ∷ below) memory s.trace) }) r_is,
      )
