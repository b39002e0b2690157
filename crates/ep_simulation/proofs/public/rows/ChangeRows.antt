-- What the rows lead to that change variables and that write, where the machine matches.
use Rattle.std.proofs.Common.{◌≡◌, ℕ, ℤ, pos, ◌+◌, ◌==◌, ◌≤◌, arith, Bool, true, false, cond, List, ◌∷◌, ◌++◌, length, Some, None, slice_get, slice_set, refl, sym, ap, ◌∙◌, subst}
use Rattle.std.proofs.lemmas.Bool.Decides.{nat_tests}
use Rattle.std.proofs.lemmas.List.{length-replicate}
use Rattle.std.proofs.lemmas.Option.{same_Some}
use Rattle.ep_simulation.specs.Follows.{Facts, Lasts, Bare, Inside}
use Rattle.ep_simulation.specs.Layouts.{Layout}
use Rattle.ep_simulation.specs.Matching.{MachineMemory, at, Injection, IsBare, IsLike, IsSpot, HasAt, part_along, all_of, Represents, Matches, Slots}
use Rattle.ep_object.specs.Places.{words_replaced}
use Rattle.ep_simulation.specs.Promises.{IsValueOf}
use Rattle.ep_object.specs.Sets.{IsSet, set_size, words_of_set}
use Rattle.ep_object.specs.Operands.{Operand, Word, Text}
use Rattle.ep_object.specs.Operands as operand
use Rattle.ep_object.specs.Runs.{outcome, unit_in}
use Rattle.ep_object.specs.State.{Running, Stopped, Error, bare_number, output_place, text_entry, first_types, undefined}
use Rattle.ep_object.specs.Texts.{written}
use Rattle.ep_object.specs.declared.code.Image.{Image}
use Rattle.ep_object.specs.declared.state.Place.{Place}
use Rattle.ep_simulation.proofs.matching.Changes.{storing, matches_events, grown_storing, matches_assigned}
use Rattle.ep_object.proofs.public.Elements.{length-set}
use Rattle.ep_simulation.proofs.public.following.Fragments.{Does, FailsWith}
use Rattle.ep_simulation.proofs.public.matching.MoreMemory.{slice_get-prefix, grown_refl, same_routine-refl, inside_here}
use Rattle.ep_simulation.proofs.public.rows.Rows.{instr, in_one, outcome_at}
use Rattle.ep_simulation.proofs.public.matching.Standing.{Stands, place_stands, StandsOrdinal, ordinal_stands, allocated, place_ended, represents_living, type_of_variable}
use Rattle.ep_simulation.proofs.public.matching.BareValues.{has_bare, has_with-bare, own_bare}
use Rattle.ep_simulation.proofs.matching.Described.{one_bare_number}
use Rattle.ep_simulation.proofs.matching.Likes.{like_array, like_one, like_ordinal, like_record, like_set, no_like_initial}
use Rattle.ep_object.proofs.public.SetWords.{words_many}
use Rattle.ep_simulation.proofs.matching.Starting.{undefined_hold}
use Rattle.ep_simulation.proofs.matching.SetValues.{words_hold}
use Rattle.ep_simulation.proofs.matching.Values.{part_fits, replaced_holds, replaced_length, replaced_same, taken_there, type_is_same}
use Rattle.ep_simulation.proofs.matching.Words.{file_word, set-same_but, ordinal_word, ordinal-stored, ordinal-undefined}
use Rattle.ep_simulation.proofs.public.rows.TextRows.{written-same}
use Rattle.ep_values.specs.Events.{Trace}
use Rattle.ep_values.specs.Printing.{piece_events, Result}
use Rattle.ep_values.specs.Sets.{are_between}
use Rattle.ep_meaning.proofs.public.Bares.{bare_among_values, bare_base, bare_size, bare_type}
use Rattle.ep_meaning.specs.Results.{has_base_for, is_type, misfit, suits, value_of, weight_of}
use Rattle.ep_meaning.specs.Steps.{Component, Allocation, is_among, type_in, type_at, ended_in, has_ended, assigned, with_events}
use Rattle.ep_values.specs.Values.{Value, Undefined, value_along, value_with}
use Rattle.ep_values.specs.TypeValues.{is_within}
use Rattle.ep_meaning.specs.Steps as meaning
use Rattle.ep_meaning.specs.Valid as kind
use Rattle.ep_meaning.specs.Valid.{IsSetOf, IsStructured, IsTypeOf, IsTypeOfKind, IsTypeValue, ValueKind}
use Rattle.ep_typed.specs.Hosts.{Host}
use Rattle.std.specs.Prelude.{⊤, option_map, replicate}
use Rattle.ep_values.specs.TypeValues.{TypeValue, bare_of, same_type, size_of}
use Rattle.ep_values.specs.TypeValues as type
use Rattle.ep_object.specs.declared.op.TheConstants as op
use Rattle.ep_values.specs.declared.run_error.TheConstants as run_error

-- a variable of the type may take a value of the kind
abbrev pub MayTake : ValueKind → TypeValue → Type 0
MayTake (kind.Ordinal h) (type.Ordinal low high) = ⊤
MayTake (kind.Ordinal h) type.Text = ⊥
MayTake (kind.Ordinal h) (type.Array low high of) = ⊥
MayTake (kind.Ordinal h) (type.Record ts) = ⊥
MayTake (kind.Ordinal h) (type.Set low high) = ⊥
MayTake (kind.Ordinal h) (type.Initial of start) = ⊥
MayTake (kind.Set h) (type.Ordinal low high) = ⊥
MayTake (kind.Set h) type.Text = ⊥
MayTake (kind.Set h) (type.Array low high of) = ⊥
MayTake (kind.Set h) (type.Record ts) = ⊥
MayTake (kind.Set h) (type.Set low high) = ⊤
MayTake (kind.Set h) (type.Initial of start) = ⊥
MayTake kind.Bytes t = ⊥
MayTake (kind.Structured u) t = (u ≡ t) × IsStructured u

-- one of its own kind
pub may_take : (k : ValueKind) (t : TypeValue) → IsTypeOfKind k t → MayTake k t
may_take (kind.Ordinal h) (type.Ordinal low high) is = tt
may_take (kind.Ordinal h) type.Text is = absurd is
may_take (kind.Ordinal h) (type.Array low high of) is = absurd is
may_take (kind.Ordinal h) (type.Record ts) is = absurd is
may_take (kind.Ordinal h) (type.Set low high) is = absurd is
may_take (kind.Ordinal h) (type.Initial of start) is = absurd is
may_take (kind.Set h) (type.Ordinal low high) is = absurd is
may_take (kind.Set h) type.Text is = absurd is
may_take (kind.Set h) (type.Array low high of) is = absurd is
may_take (kind.Set h) (type.Record ts) is = absurd is
may_take (kind.Set h) (type.Set low high) is = tt
may_take (kind.Set h) (type.Initial of start) is = absurd is
may_take kind.Bytes t is = is
may_take (kind.Structured u) t is = is

-- and one of an ordinal type of any host
pub ordinal_takes : (h i : Host) (t : TypeValue) → IsTypeOf h t → MayTake (kind.Ordinal i) t
ordinal_takes h i (type.Ordinal low high) is = tt
ordinal_takes h i type.Text is = is
ordinal_takes h i (type.Array low high of) is = is
ordinal_takes h i (type.Record ts) is = is
ordinal_takes h i (type.Set low high) is = is
ordinal_takes h i (type.Initial of start) is = is

-- and a set of a set type of any host
pub set_takes : (h i : Host) (t : TypeValue) → IsSetOf h t → MayTake (kind.Set i) t
set_takes h i (type.Ordinal low high) is = is
set_takes h i type.Text is = is
set_takes h i (type.Array low high of) is = is
set_takes h i (type.Record ts) is = is
set_takes h i (type.Set low high) is = tt
set_takes h i (type.Initial of start) is = is

-- a variable of the type has any number of words
abbrev HasManyWords : TypeValue → Type 0
HasManyWords (type.Ordinal low high) = ⊥
HasManyWords type.Text = ⊥
HasManyWords (type.Array low high of) = ⊤
HasManyWords (type.Record ts) = ⊤
HasManyWords (type.Set low high) = ⊤
HasManyWords (type.Initial of start) = ⊥

module _ (layout : Layout) (G : Image) (place line : ℕ) (below : List Operand) where
  -- `Put` of a text to `output`
  pub put_does : {untouched : Slots} {Here : Facts} (bytes : List ℕ)
      → slice_get G.instructions place ≡ Some (instr op.PUT (pos 0) 0 line) → Lasts untouched Here
      → (injection : Injection) (memory : MachineMemory) (s : meaning.State) → Matches layout G injection s memory
      → Here injection s memory
      → Does layout G Here (at place (Text bytes ∷ operand.Place output_place ∷ below) memory s.trace) (length bytes) (place + 1) (Inside untouched injection memory (Bare below tt)) (with_events (piece_events bytes) s)
  put_does bytes has lasts injection memory s matches here =
      let injected = matches.injected in
      let store = matches.store in
      let outside = matches.outside in
      let a = allocated injection s 2 2 injected.made outside.output in
      let r : Represents injection memory.segments memory.types 2 a.0 = represents_living injection memory.segments memory.types 2 a.0 (sym (ap ended_in a.1) ∙ outside.lives) (store.represented 2 2 a.0 outside.output a.1) in
      let types = matches.types in
      let is_text : bare_of (a.0).type_value ≡ type.Text = same_Some (bare_of (a.0).type_value) type.Text (sym (ap (λ o. option_map bare_of (type_in o)) a.1) ∙ injected.typed 2 type.Text outside.file) in
      let w = file_word injection (a.0).value (slice_get r.words) 0 (subst (λ t. HasAt injection t (a.0).value (slice_get r.words) 0) is_text (has_bare injection (a.0).type_value (a.0).value (slice_get r.words) 0 r.holds)) in
      record {
        injection = injection;
        memory = memory;
        operands = below;
        does = go r.type_number r.words w.0 (slice_get-prefix first_types memory.types 3 text_entry types.first refl) r.stands w.1 ∙ ap (λ events. record { weight = length bytes; to = Running 0 (at (place + 1) below memory (s.trace ++ events)) }) (written-same bytes);
        matches = matches_events (piece_events bytes) matches;
        here = lasts.by injection injection s (with_events (piece_events bytes) s) memory memory (record { grown = grown_refl injection memory; routine = same_routine-refl memory.frames; own = λ k. refl; calls = refl }) here;
        post = inside_here refl;
      }
    where
      go : (type_number : ℕ) (words : List ℤ) (w : ℤ) → slice_get memory.types 3 ≡ Some text_entry
          → slice_get memory.segments 2 ≡ Some (Some (record { type_number = type_number; words = words }))
          → slice_get words 0 ≡ Some w
          → outcome G (at place (Text bytes ∷ operand.Place output_place ∷ below) memory s.trace) ≡ record { weight = length bytes; to = Running 0 (at (place + 1) below memory (s.trace ++ written bytes)) }
      go type_number words w typed stands there = outcome_at G (instr op.PUT (pos 0) 0 line) place (Text bytes ∷ operand.Place output_place ∷ below) memory s.trace has ∙ rw (typed, stands, there) refl

  -- `Store` of a word, which is checked as the assignment is
  store_outcome : (memory : MachineMemory) (trace : Trace) (p : Place) (low high z : ℤ) (type_number : ℕ) (words : List ℤ) (w : ℤ) (b : Bool)
      → slice_get G.instructions place ≡ Some (instr op.STORE (pos 0) 0 line)
      → IsLike memory.types p.type_number (type.Ordinal low high)
      → slice_get memory.segments p.segment ≡ Some (Some (record { type_number = type_number; words = words }))
      → slice_get words p.offset ≡ Some w → is_within (type.Ordinal low high) z ≡ b
      → outcome G (at place (Word z ∷ operand.Place p ∷ below) memory trace) ≡ in_one (cond b (Running 0 (at (place + 1) below (storing memory p.segment type_number (slice_set words p.offset z)) trace)) (Stopped (Error run_error.OUTSIDE_TYPE (unit_in G memory.frames) line) trace))
  store_outcome memory trace p low high z type_number words w true has typed stands there within =
      let e = like_ordinal memory.types p.type_number low high typed in
      outcome_at G (instr op.STORE (pos 0) 0 line) place (Word z ∷ operand.Place p ∷ below) memory trace has ∙ rw (e.2, stands, there, within) refl
  store_outcome memory trace p low high z type_number words w false has typed stands there within =
      let e = like_ordinal memory.types p.type_number low high typed in
      outcome_at G (instr op.STORE (pos 0) 0 line) place (Word z ∷ operand.Place p ∷ below) memory trace has ∙ rw (e.2, stands, there, within) refl

  -- `Store` of a word in a variable that has ended
  pub store_fails_ended : (low high z : ℤ) (v : Component) (p : Place)
      → slice_get G.instructions place ≡ Some (instr op.STORE (pos 0) 0 line)
      → (injection : Injection) (memory : MachineMemory) → IsSpot injection memory.types v p
      → IsLike memory.types p.type_number (type.Ordinal low high) → (s : meaning.State)
      → Matches layout G injection s memory → has_ended v.allocation s ≡ true
      → FailsWith G (at place (Word z ∷ operand.Place p ∷ below) memory s.trace) 0 11 (unit_in G memory.frames) line s
  store_fails_ended low high z v p has injection memory spot described s matches ended =
      let e = like_ordinal memory.types p.type_number low high described in
      record { fails = outcome_at G (instr op.STORE (pos 0) 0 line) place (Word z ∷ operand.Place p ∷ below) memory s.trace has ∙ rw (e.2, place_ended matches spot ended) refl }

  module _ (low high z : ℤ) (v : Component) (p : Place) (has : slice_get G.instructions place ≡ Some (instr op.STORE (pos 0) 0 line)) (injection : Injection) (memory : MachineMemory) (spot : IsSpot injection memory.types v p) (described : IsLike memory.types p.type_number (type.Ordinal low high)) (s : meaning.State) (matches : Matches layout G injection s memory) (living : has_ended v.allocation s ≡ false) where
    here : StandsOrdinal injection s memory v p low high
    here = ordinal_stands low high matches spot described living

    word_type : option_map bare_of (type_at v s) ≡ Some (type.Ordinal low high)
    word_type = type_of_variable (type.Ordinal low high) v p.offset s here.allocation here.is here.leads

    -- which words it may have
    among_is : is_among (type_at v s) z ≡ is_within (type.Ordinal low high) z
    among_is = sym (bare_among_values (type_at v s) z) ∙ ap (λ t. is_among t z) word_type

    pub store_does : {untouched : Slots} {Here : Facts} → Lasts untouched Here → Here injection s memory
        → is_among (type_at v s) z ≡ true
        → Does layout G Here (at place (Word z ∷ operand.Place p ∷ below) memory s.trace) 0 (place + 1) (Inside untouched injection memory (Bare below tt)) (assigned v (meaning.Word z) s)
    store_does {untouched = untouched} lasts known within =
        let a : Allocation = here.allocation in
        let r : Represents injection memory.segments memory.types p.segment a = here.represents in
        let inside : is_within (type.Ordinal low high) z ≡ true = sym among_is ∙ within in
        let words : List ℤ = slice_set r.words p.offset z in
        let old = ordinal_word (value_along a.value v.path) here.word in
        let holds : HasAt injection a.type_value (value_with a.value v.path (meaning.Word z)) (slice_get words) 0 = has_with-bare injection a.type_value v.path a.value (meaning.Word z) (slice_get r.words) (slice_get words) (record { offset = p.offset; type_value = type.Ordinal low high }) here.leads (set-same_but r.words z (record { offset = p.offset; type_value = type.Ordinal low high }) refl) r.holds (ordinal-stored z (value_along a.value v.path) r.words p.offset here.word inside) in
        record {
          injection = injection;
          memory = storing memory p.segment r.type_number words;
          operands = below;
          does = store_outcome memory s.trace p low high z r.type_number r.words old.0 true has described r.stands old.1 inside;
          matches = matches_assigned matches v.allocation p.segment a spot.is_in here.is here.lives r words v.path (meaning.Word z) (length-set r.words p.offset z) holds;
          here = lasts.by injection injection s (assigned v (meaning.Word z) s) memory (storing memory p.segment r.type_number words) (record { grown = grown_storing matches v.allocation p.segment a spot.is_in here.is here.lives r words; routine = same_routine-refl memory.frames; own = λ k. refl; calls = refl }) known;
          post = record { grown = grown_storing matches v.allocation p.segment a spot.is_in here.is here.lives r words; routine = same_routine-refl memory.frames; operands_are = refl };
        }

    pub store_fails : is_among (type_at v s) z ≡ false
        → FailsWith G (at place (Word z ∷ operand.Place p ∷ below) memory s.trace) 0 2 (unit_in G memory.frames) line s
    store_fails within =
        let r : Represents injection memory.segments memory.types p.segment here.allocation = here.represents in
        let outside : is_within (type.Ordinal low high) z ≡ false = sym among_is ∙ within in
        let old = ordinal_word (value_along (here.allocation).value v.path) here.word in
        record { fails = store_outcome memory s.trace p low high z r.type_number r.words old.0 false has described r.stands old.1 outside }

  -- the type of a variable that lives is the one that its place is described by, but for initial states
  pub variable_type : (t : TypeValue) (v : Component) (p : Place) (injection : Injection) (memory : MachineMemory) → IsSpot injection memory.types v p
      → IsLike memory.types p.type_number t → (s : meaning.State) → Matches layout G injection s memory → has_ended v.allocation s ≡ false
      → option_map bare_of (type_at v s) ≡ Some t
  variable_type t v p injection memory spot described s matches living =
      let x : Stands injection s memory v p = place_stands matches spot living in
      let a : Allocation = x.allocation in
      let its : x.type_value ≡ t = like_one memory.types p.type_number x.type_value t x.described described in
      type_of_variable x.type_value v p.offset s a x.is x.leads ∙ ap Some its

  -- ---- `Store` of a value of an array or a record

  same_number : (m n : ℕ) → m ≡ n → (m == n) ≡ true
  same_number m n same = grind (arith, nat_tests, same)

  structure_outcome : (memory : MachineMemory) (trace : Trace) (p : Place) (t : TypeValue) (n : ℕ) (ws : List ℤ) (type_number : ℕ) (words : List ℤ) → IsStructured t
      → slice_get G.instructions place ≡ Some (instr op.STORE (pos 0) 0 line)
      → IsLike memory.types p.type_number t → ((b : ℕ) → IsBare memory.types b t → n ≡ b)
      → slice_get memory.segments p.segment ≡ Some (Some (record { type_number = type_number; words = words }))
      → p.offset + length ws ≤ length words
      → outcome G (at place (operand.Value n ws ∷ operand.Place p ∷ below) memory trace) ≡ record { weight = length ws; to = Running 0 (at (place + 1) below (storing memory p.segment type_number (words_replaced words p.offset ws)) trace) }
  structure_outcome memory trace p (type.Ordinal low high) n ws type_number words structured has described one stands fits = absurd structured
  structure_outcome memory trace p type.Text n ws type_number words structured has described one stands fits = absurd structured
  structure_outcome memory trace p (type.Set low high) n ws type_number words structured has described one stands fits = absurd structured
  structure_outcome memory trace p (type.Initial of start) n ws type_number words structured has described one stands fits = absurd structured
  structure_outcome memory trace p (type.Array low high of) n ws type_number words structured has described one stands fits =
      let e = like_array memory.types p.type_number low high of described in
      let equal : (n == bare_number p.type_number e.bare) ≡ true = same_number n (bare_number p.type_number e.bare) (one (bare_number p.type_number e.bare) e.form) in
      outcome_at G (instr op.STORE (pos 0) 0 line) place (operand.Value n ws ∷ operand.Place p ∷ below) memory trace has ∙ rw (e.stands, stands, equal, taken_there words p.offset (length ws) fits) refl
  structure_outcome memory trace p (type.Record ts) n ws type_number words structured has described one stands fits =
      let e = like_record memory.types p.type_number ts described in
      let equal : (n == bare_number p.type_number e.bare) ≡ true = same_number n (bare_number p.type_number e.bare) (one (bare_number p.type_number e.bare) e.form) in
      outcome_at G (instr op.STORE (pos 0) 0 line) place (operand.Value n ws ∷ operand.Place p ∷ below) memory trace has ∙ rw (e.stands, stands, equal, taken_there words p.offset (length ws) fits) refl

  structure_ended : (memory : MachineMemory) (trace : Trace) (p : Place) (t : TypeValue) (n : ℕ) (ws : List ℤ) → IsStructured t
      → slice_get G.instructions place ≡ Some (instr op.STORE (pos 0) 0 line)
      → IsLike memory.types p.type_number t → slice_get memory.segments p.segment ≡ Some None
      → outcome G (at place (operand.Value n ws ∷ operand.Place p ∷ below) memory trace) ≡ record { weight = length ws; to = Stopped (Error run_error.DISPOSED (unit_in G memory.frames) line) trace }
  structure_ended memory trace p (type.Ordinal low high) n ws structured has described gone = absurd structured
  structure_ended memory trace p type.Text n ws structured has described gone = absurd structured
  structure_ended memory trace p (type.Set low high) n ws structured has described gone = absurd structured
  structure_ended memory trace p (type.Initial of start) n ws structured has described gone = absurd structured
  structure_ended memory trace p (type.Array low high of) n ws structured has described gone =
      let e = like_array memory.types p.type_number low high of described in
      outcome_at G (instr op.STORE (pos 0) 0 line) place (operand.Value n ws ∷ operand.Place p ∷ below) memory trace has ∙ rw (e.stands, gone) refl
  structure_ended memory trace p (type.Record ts) n ws structured has described gone =
      let e = like_record memory.types p.type_number ts described in
      outcome_at G (instr op.STORE (pos 0) 0 line) place (operand.Value n ws ∷ operand.Place p ∷ below) memory trace has ∙ rw (e.stands, gone) refl

  -- ---- `Undefine` of many words

  many_undefined : (memory : MachineMemory) (trace : Trace) (p : Place) (t : TypeValue) (type_number : ℕ) (words : List ℤ) → HasManyWords t
      → slice_get G.instructions place ≡ Some (instr op.UNDEFINE (pos 0) 0 line)
      → IsLike memory.types p.type_number t
      → slice_get memory.segments p.segment ≡ Some (Some (record { type_number = type_number; words = words }))
      → p.offset + size_of t ≤ length words
      → outcome G (at place (operand.Place p ∷ below) memory trace) ≡ record { weight = size_of t; to = Running 0 (at (place + 1) below (storing memory p.segment type_number (words_replaced words p.offset (replicate (size_of t) undefined))) trace) }
  many_undefined memory trace p (type.Ordinal low high) type_number words many has described stands fits = absurd many
  many_undefined memory trace p type.Text type_number words many has described stands fits = absurd many
  many_undefined memory trace p (type.Initial of start) type_number words many has described stands fits = absurd many
  many_undefined memory trace p (type.Set low high) type_number words many has described stands fits =
      let e = like_set memory.types p.type_number low high described in
      outcome_at G (instr op.UNDEFINE (pos 0) 0 line) place (operand.Place p ∷ below) memory trace has ∙ rw (e.2, stands, taken_there words p.offset set_size fits) refl
  many_undefined memory trace p (type.Array low high of) type_number words many has described stands fits =
      let e = like_array memory.types p.type_number low high of described in
      outcome_at G (instr op.UNDEFINE (pos 0) 0 line) place (operand.Place p ∷ below) memory trace has ∙ rw (e.stands, stands, taken_there words p.offset (size_of (type.Array low high of)) fits) refl
  many_undefined memory trace p (type.Record ts) type_number words many has described stands fits =
      let e = like_record memory.types p.type_number ts described in
      outcome_at G (instr op.UNDEFINE (pos 0) 0 line) place (operand.Place p ∷ below) memory trace has ∙ rw (e.stands, stands, taken_there words p.offset (size_of (type.Record ts)) fits) refl

  -- ---- `Store` of a set

  set_outcome : (memory : MachineMemory) (trace : Trace) (p : Place) (low high : ℤ) (ms : List ℕ) (type_number : ℕ) (words : List ℤ) (b : Bool)
      → slice_get G.instructions place ≡ Some (instr op.STORE (pos 0) 0 line)
      → IsLike memory.types p.type_number (type.Set low high)
      → slice_get memory.segments p.segment ≡ Some (Some (record { type_number = type_number; words = words }))
      → p.offset + set_size ≤ length words → are_between low high ms ≡ b
      → outcome G (at place (operand.Set ms ∷ operand.Place p ∷ below) memory trace) ≡ in_one (cond b (Running 0 (at (place + 1) below (storing memory p.segment type_number (words_replaced words p.offset (words_of_set ms))) trace)) (Stopped (Error run_error.SET_MEMBER (unit_in G memory.frames) line) trace))
  set_outcome memory trace p low high ms type_number words true has typed stands fits within =
      let e = like_set memory.types p.type_number low high typed in
      outcome_at G (instr op.STORE (pos 0) 0 line) place (operand.Set ms ∷ operand.Place p ∷ below) memory trace has ∙ rw (e.2, stands, taken_there words p.offset set_size fits, within) refl
  set_outcome memory trace p low high ms type_number words false has typed stands fits within =
      let e = like_set memory.types p.type_number low high typed in
      outcome_at G (instr op.STORE (pos 0) 0 line) place (operand.Set ms ∷ operand.Place p ∷ below) memory trace has ∙ rw (e.2, stands, taken_there words p.offset set_size fits, within) refl

  -- ---- variables of many words

  module _ (t : TypeValue) (v : Component) (p : Place) (injection : Injection) (memory : MachineMemory) (spot : IsSpot injection memory.types v p) (described : IsLike memory.types p.type_number t) (s : meaning.State) (matches : Matches layout G injection s memory) (living : has_ended v.allocation s ≡ false) where
    there : Stands injection s memory v p
    there = place_stands matches spot living

    its_type : there.type_value ≡ t
    its_type = like_one memory.types p.type_number there.type_value t there.described described

    leads : part_along (Some (all_of (bare_of (there.allocation).type_value))) v.path ≡ Some (record { offset = p.offset; type_value = t })
    leads = subst (λ u. part_along (Some (all_of (bare_of (there.allocation).type_value))) v.path ≡ Some (record { offset = p.offset; type_value = u })) its_type there.leads

    pub structure_type : option_map bare_of (type_at v s) ≡ Some t
    structure_type = type_of_variable t v p.offset s there.allocation there.is leads

    -- the variable is within its segment
    fits_there : (let r = there.represents in p.offset + size_of t ≤ length r.words)
    fits_there =
        let a : Allocation = there.allocation in
        let r = there.represents in
        let within = part_fits (bare_of a.type_value) v.path (record { offset = p.offset; type_value = t }) leads in
        omega (arith, within, r.sized, bare_size a.type_value)

    -- what an instruction does that puts words which hold a value
    puts_value : {untouched : Slots} {Here : Facts} → Lasts untouched Here → Here injection s memory
        → (value : Value) (operands : List Operand) (weight : ℕ) (ws : List ℤ) → length ws ≡ size_of t → HasAt injection t value (slice_get ws) 0
        → (let r = there.represents in outcome G (at place operands memory s.trace) ≡ record { weight = weight; to = Running 0 (at (place + 1) below (storing memory p.segment r.type_number (words_replaced r.words p.offset ws)) s.trace) })
        → Does layout G Here (at place operands memory s.trace) weight (place + 1) (Inside untouched injection memory (Bare below tt)) (assigned v value s)
    puts_value {untouched = untouched} lasts known value operands weight ws sized holds puts =
        let a : Allocation = there.allocation in
        let r : Represents injection memory.segments memory.types p.segment a = there.represents in
        let fits : p.offset + length ws ≤ length r.words = omega (arith, fits_there, sized) in
        let words : List ℤ = words_replaced r.words p.offset ws in
        let now : HasAt injection a.type_value (value_with a.value v.path value) (slice_get words) 0 = has_with-bare injection a.type_value v.path a.value value (slice_get r.words) (slice_get words) (record { offset = p.offset; type_value = t }) leads (replaced_same r.words ws p.offset fits t sized) r.holds (replaced_holds r.words ws p.offset fits injection t value sized holds) in
        record {
          injection = injection;
          memory = storing memory p.segment r.type_number words;
          operands = below;
          does = puts;
          matches = matches_assigned matches v.allocation p.segment a spot.is_in there.is there.lives r words v.path value (replaced_length r.words ws p.offset fits) now;
          here = lasts.by injection injection s (assigned v value s) memory (storing memory p.segment r.type_number words) (record { grown = grown_storing matches v.allocation p.segment a spot.is_in there.is there.lives r words; routine = same_routine-refl memory.frames; own = λ k. refl; calls = refl }) known;
          post = record { grown = grown_storing matches v.allocation p.segment a spot.is_in there.is there.lives r words; routine = same_routine-refl memory.frames; operands_are = refl };
        }

    -- a value of an array or a record
    structure_does : {untouched : Slots} {Here : Facts} → Lasts untouched Here → Here injection s memory → IsStructured t
        → slice_get G.instructions place ≡ Some (instr op.STORE (pos 0) 0 line)
        → (value : Value) (n : ℕ) (ws : List ℤ) → IsBare memory.types n t → length ws ≡ size_of t → HasAt injection t value (slice_get ws) 0
        → Does layout G Here (at place (operand.Value n ws ∷ operand.Place p ∷ below) memory s.trace) (length ws) (place + 1) (Inside untouched injection memory (Bare below tt)) (assigned v value s)
    structure_does lasts known structured has value n ws of_type sized holds =
        let r : Represents injection memory.segments memory.types p.segment there.allocation = there.represents in
        let one : (b : ℕ) → IsBare memory.types b t → n ≡ b = λ b other. one_bare_number memory.types t n b matches.types of_type other in
        let fits : p.offset + length ws ≤ length r.words = omega (arith, fits_there, sized) in
        puts_value lasts known value (operand.Value n ws ∷ operand.Place p ∷ below) (length ws) ws sized holds (structure_outcome memory s.trace p t n ws r.type_number r.words structured has described one r.stands fits)

    -- it becomes undefined
    many_does : {untouched : Slots} {Here : Facts} → Lasts untouched Here → Here injection s memory → HasManyWords t → IsTypeValue t
        → slice_get G.instructions place ≡ Some (instr op.UNDEFINE (pos 0) 0 line)
        → Does layout G Here (at place (operand.Place p ∷ below) memory s.trace) (size_of t) (place + 1) (Inside untouched injection memory (Bare below tt)) (assigned v Undefined s)
    many_does lasts known many valid has =
        let r : Represents injection memory.segments memory.types p.segment there.allocation = there.represents in
        puts_value lasts known Undefined (operand.Place p ∷ below) (size_of t) (replicate (size_of t) undefined) (length-replicate (size_of t) undefined) (undefined_hold injection t valid) (many_undefined memory s.trace p t r.type_number r.words many has described r.stands fits_there)

  module _ (low high : ℤ) (ms : List ℕ) (v : Component) (p : Place) (has : slice_get G.instructions place ≡ Some (instr op.STORE (pos 0) 0 line)) (injection : Injection) (memory : MachineMemory) (spot : IsSpot injection memory.types v p) (described : IsLike memory.types p.type_number (type.Set low high)) (s : meaning.State) (matches : Matches layout G injection s memory) (living : has_ended v.allocation s ≡ false) where
    set_type : option_map bare_of (type_at v s) ≡ Some (type.Set low high)
    set_type = structure_type (type.Set low high) v p injection memory spot described s matches living

    -- which members it may have
    base_is : has_base_for (type_at v s) ms ≡ are_between low high ms
    base_is = sym (bare_base (type_at v s) ms) ∙ ap (λ t. has_base_for t ms) set_type

    leads_to : (b : Bool) → are_between low high ms ≡ b
        → (let stands = there (type.Set low high) v p injection memory spot described s matches living in let r = stands.represents in
        outcome G (at place (operand.Set ms ∷ operand.Place p ∷ below) memory s.trace) ≡ in_one (cond b (Running 0 (at (place + 1) below (storing memory p.segment r.type_number (words_replaced r.words p.offset (words_of_set ms))) s.trace)) (Stopped (Error run_error.SET_MEMBER (unit_in G memory.frames) line) s.trace)))
    leads_to b within =
        let stands = there (type.Set low high) v p injection memory spot described s matches living in
        let r = stands.represents in
        set_outcome memory s.trace p low high ms r.type_number r.words b has described r.stands (fits_there (type.Set low high) v p injection memory spot described s matches living) within

    -- a set whose members are of the base type
    set_does : {untouched : Slots} {Here : Facts} → Lasts untouched Here → Here injection s memory → IsSet ms → are_between low high ms ≡ true
        → Does layout G Here (at place (operand.Set ms ∷ operand.Place p ∷ below) memory s.trace) 0 (place + 1) (Inside untouched injection memory (Bare below tt)) (assigned v (meaning.Members ms) s)
    set_does lasts known is_set within =
        puts_value (type.Set low high) v p injection memory spot described s matches living lasts known (meaning.Members ms) (operand.Set ms ∷ operand.Place p ∷ below) 0 (words_of_set ms) (words_many ms) (words_hold low high ms is_set within) (leads_to true within)

    -- and one with another member
    set_fails : are_between low high ms ≡ false
        → FailsWith G (at place (operand.Set ms ∷ operand.Place p ∷ below) memory s.trace) 0 run_error.SET_MEMBER (unit_in G memory.frames) line s
    set_fails outside = record { fails = leads_to false outside }

  -- ---- `Store` of any value

  -- in a variable that has ended
  pub value_ended : (k : ValueKind) (t : TypeValue) (r : Result) (o : Operand) (v : Component) (p : Place) → MayTake k t
      → slice_get G.instructions place ≡ Some (instr op.STORE (pos 0) 0 line)
      → (injection : Injection) (memory : MachineMemory) → IsValueOf injection memory k r o → IsSpot injection memory.types v p
      → IsLike memory.types p.type_number t → (s : meaning.State)
      → Matches layout G injection s memory → has_ended v.allocation s ≡ true
      → FailsWith G (at place (o ∷ operand.Place p ∷ below) memory s.trace) (weight_of r) 11 (unit_in G memory.frames) line s
  value_ended (kind.Ordinal h) (type.Ordinal low high) r o v p of_kind has injection memory (z, r_is, of_host, o_is) spot described s matches ended =
      rw (o_is, r_is) (store_fails_ended low high z v p has injection memory spot described s matches ended)
  value_ended (kind.Ordinal h) type.Text r o v p of_kind has injection memory is spot described s matches ended = absurd of_kind
  value_ended (kind.Ordinal h) (type.Array low high of) r o v p of_kind has injection memory is spot described s matches ended = absurd of_kind
  value_ended (kind.Ordinal h) (type.Record ts) r o v p of_kind has injection memory is spot described s matches ended = absurd of_kind
  value_ended (kind.Ordinal h) (type.Set low high) r o v p of_kind has injection memory is spot described s matches ended = absurd of_kind
  value_ended (kind.Set h) (type.Ordinal low high) r o v p of_kind has injection memory is spot described s matches ended = absurd of_kind
  value_ended (kind.Set h) type.Text r o v p of_kind has injection memory is spot described s matches ended = absurd of_kind
  value_ended (kind.Set h) (type.Array low high of) r o v p of_kind has injection memory is spot described s matches ended = absurd of_kind
  value_ended (kind.Set h) (type.Record ts) r o v p of_kind has injection memory is spot described s matches ended = absurd of_kind
  value_ended (kind.Ordinal h) (type.Initial of start) r o v p of_kind has injection memory is spot described s matches ended = absurd of_kind
  value_ended (kind.Set h) (type.Initial of start) r o v p of_kind has injection memory is spot described s matches ended = absurd of_kind
  value_ended (kind.Set h) (type.Set low high) r o v p of_kind has injection memory (ms, r_is, is_set, o_is) spot described s matches ended =
      let e = like_set memory.types p.type_number low high described in
      rw (o_is, r_is) (record { fails = outcome_at G (instr op.STORE (pos 0) 0 line) place (operand.Set ms ∷ operand.Place p ∷ below) memory s.trace has ∙ rw (e.2, place_ended matches spot ended) refl })
  value_ended kind.Bytes t r o v p of_kind has injection memory is spot described s matches ended = absurd of_kind
  value_ended (kind.Structured u) t r o v p (same, structured) has injection memory is spot described s matches ended =
      let own : IsLike memory.types p.type_number u = subst (IsLike memory.types p.type_number) (sym same) described in
      let fails : outcome G (at place (operand.Value is.type_number is.words ∷ operand.Place p ∷ below) memory s.trace) ≡ record { weight = size_of u; to = Stopped (Error run_error.DISPOSED (unit_in G memory.frames) line) s.trace }
      = structure_ended memory s.trace p u is.type_number is.words structured has own (place_ended matches spot ended) ∙ ap (λ n. record { weight = n; to = Stopped (Error run_error.DISPOSED (unit_in G memory.frames) line) s.trace }) is.sized in
      rw (is.is, is.is_structure) (record { fails = fails })

  -- a value that the variable may have
  pub value_does : {untouched : Slots} {Here : Facts} (k : ValueKind) (t : TypeValue) (r : Result) (o : Operand) (v : Component) (p : Place) → MayTake k t
      → slice_get G.instructions place ≡ Some (instr op.STORE (pos 0) 0 line)
      → (injection : Injection) (memory : MachineMemory) → IsValueOf injection memory k r o → IsSpot injection memory.types v p
      → IsLike memory.types p.type_number t → (s : meaning.State)
      → Matches layout G injection s memory → has_ended v.allocation s ≡ false
      → Lasts untouched Here → Here injection s memory → suits (type_at v s) r ≡ true
      → Does layout G Here (at place (o ∷ operand.Place p ∷ below) memory s.trace) (weight_of r) (place + 1) (Inside untouched injection memory (Bare below tt)) (assigned v (value_of r) s)
  value_does (kind.Ordinal h) (type.Ordinal low high) r o v p of_kind has injection memory (z, r_is, of_host, o_is) spot described s matches living lasts known fits =
      let within : is_among (type_at v s) z ≡ true = ap (suits (type_at v s)) (sym r_is) ∙ fits in
      rw (o_is, r_is) (store_does low high z v p has injection memory spot described s matches living lasts known within)
  value_does (kind.Ordinal h) type.Text r o v p of_kind has injection memory is spot described s matches living lasts known fits = absurd of_kind
  value_does (kind.Ordinal h) (type.Array low high of) r o v p of_kind has injection memory is spot described s matches living lasts known fits = absurd of_kind
  value_does (kind.Ordinal h) (type.Record ts) r o v p of_kind has injection memory is spot described s matches living lasts known fits = absurd of_kind
  value_does (kind.Ordinal h) (type.Set low high) r o v p of_kind has injection memory is spot described s matches living lasts known fits = absurd of_kind
  value_does (kind.Set h) (type.Ordinal low high) r o v p of_kind has injection memory is spot described s matches living lasts known fits = absurd of_kind
  value_does (kind.Set h) type.Text r o v p of_kind has injection memory is spot described s matches living lasts known fits = absurd of_kind
  value_does (kind.Set h) (type.Array low high of) r o v p of_kind has injection memory is spot described s matches living lasts known fits = absurd of_kind
  value_does (kind.Set h) (type.Record ts) r o v p of_kind has injection memory is spot described s matches living lasts known fits = absurd of_kind
  value_does (kind.Ordinal h) (type.Initial of start) r o v p of_kind has injection memory is spot described s matches living lasts known fits = absurd of_kind
  value_does (kind.Set h) (type.Initial of start) r o v p of_kind has injection memory is spot described s matches living lasts known fits = absurd of_kind
  value_does (kind.Set h) (type.Set low high) r o v p of_kind has injection memory (ms, r_is, is_set, o_is) spot described s matches living lasts known fits =
      let within : are_between low high ms ≡ true = sym (base_is low high ms v p has injection memory spot described s matches living) ∙ (ap (suits (type_at v s)) (sym r_is) ∙ fits) in
      rw (o_is, r_is) (set_does low high ms v p has injection memory spot described s matches living lasts known is_set within)
  value_does kind.Bytes t r o v p of_kind has injection memory is spot described s matches living lasts known fits = absurd of_kind
  value_does {untouched = untouched} {Here = Here} (kind.Structured u) t r o v p (same, structured) has injection memory is spot described s matches living lasts known fits =
      let own : IsLike memory.types p.type_number u = subst (IsLike memory.types p.type_number) (sym same) described in
      rw (is.is, is.is_structure)
      (subst (λ w. Does layout G Here (at place (operand.Value is.type_number is.words ∷ operand.Place p ∷ below) memory s.trace) w (place + 1) (Inside untouched injection memory (Bare below tt)) (assigned v is.value s)) is.sized
      (structure_does u v p injection memory spot own s matches living lasts known structured has is.value is.type_number is.words is.described is.sized is.holds))

  -- one that it may not have
  pub value_fails : (k : ValueKind) (t : TypeValue) (r : Result) (o : Operand) (v : Component) (p : Place) → MayTake k t
      → slice_get G.instructions place ≡ Some (instr op.STORE (pos 0) 0 line)
      → (injection : Injection) (memory : MachineMemory) → IsValueOf injection memory k r o → IsSpot injection memory.types v p
      → IsLike memory.types p.type_number t → (s : meaning.State)
      → Matches layout G injection s memory → has_ended v.allocation s ≡ false → suits (type_at v s) r ≡ false
      → FailsWith G (at place (o ∷ operand.Place p ∷ below) memory s.trace) (weight_of r) (misfit r) (unit_in G memory.frames) line s
  value_fails (kind.Ordinal h) (type.Ordinal low high) r o v p of_kind has injection memory (z, r_is, of_host, o_is) spot described s matches living fits =
      let outside : is_among (type_at v s) z ≡ false = ap (suits (type_at v s)) (sym r_is) ∙ fits in
      rw (o_is, r_is) (store_fails low high z v p has injection memory spot described s matches living outside)
  value_fails (kind.Ordinal h) type.Text r o v p of_kind has injection memory is spot described s matches living fits = absurd of_kind
  value_fails (kind.Ordinal h) (type.Array low high of) r o v p of_kind has injection memory is spot described s matches living fits = absurd of_kind
  value_fails (kind.Ordinal h) (type.Record ts) r o v p of_kind has injection memory is spot described s matches living fits = absurd of_kind
  value_fails (kind.Ordinal h) (type.Set low high) r o v p of_kind has injection memory is spot described s matches living fits = absurd of_kind
  value_fails (kind.Set h) (type.Ordinal low high) r o v p of_kind has injection memory is spot described s matches living fits = absurd of_kind
  value_fails (kind.Set h) type.Text r o v p of_kind has injection memory is spot described s matches living fits = absurd of_kind
  value_fails (kind.Set h) (type.Array low high of) r o v p of_kind has injection memory is spot described s matches living fits = absurd of_kind
  value_fails (kind.Set h) (type.Record ts) r o v p of_kind has injection memory is spot described s matches living fits = absurd of_kind
  value_fails (kind.Ordinal h) (type.Initial of start) r o v p of_kind has injection memory is spot described s matches living fits = absurd of_kind
  value_fails (kind.Set h) (type.Initial of start) r o v p of_kind has injection memory is spot described s matches living fits = absurd of_kind
  value_fails (kind.Set h) (type.Set low high) r o v p of_kind has injection memory (ms, r_is, is_set, o_is) spot described s matches living fits =
      let outside : are_between low high ms ≡ false = sym (base_is low high ms v p has injection memory spot described s matches living) ∙ (ap (suits (type_at v s)) (sym r_is) ∙ fits) in
      rw (o_is, r_is) (set_fails low high ms v p has injection memory spot described s matches living outside)
  value_fails kind.Bytes t r o v p of_kind has injection memory is spot described s matches living fits = absurd of_kind
  value_fails (kind.Structured u) t r o v p (same, structured) has injection memory is spot described s matches living fits =
      let own : IsLike memory.types p.type_number u = subst (IsLike memory.types p.type_number) (sym same) described in
      let its : option_map bare_of (type_at v s) ≡ Some u = structure_type u v p injection memory spot own s matches living in
      let same : is_type (type_at v s) u ≡ true = sym (bare_type (type_at v s) u) ∙ (ap (λ o. is_type o u) its ∙ (ap (λ w. same_type w u) (own_bare u (type_at v s) its) ∙ type_is_same u)) in
      let yes : suits (type_at v s) r ≡ true = ap (suits (type_at v s)) is.is_structure ∙ same in
      absurd (let e : true ≡ false = sym yes ∙ fits in cc)

  -- `Undefine` of a variable of an ordinal type
  undefine_outcome : (memory : MachineMemory) (trace : Trace) (p : Place) (low high : ℤ) (type_number : ℕ) (words : List ℤ) (w : ℤ)
      → slice_get G.instructions place ≡ Some (instr op.UNDEFINE (pos 0) 0 line)
      → IsLike memory.types p.type_number (type.Ordinal low high)
      → slice_get memory.segments p.segment ≡ Some (Some (record { type_number = type_number; words = words }))
      → slice_get words p.offset ≡ Some w
      → outcome G (at place (operand.Place p ∷ below) memory trace) ≡ record { weight = 1; to = Running 0 (at (place + 1) below (storing memory p.segment type_number (slice_set words p.offset undefined)) trace) }
  undefine_outcome memory trace p low high type_number words w has typed stands there =
      let e = like_ordinal memory.types p.type_number low high typed in
      outcome_at G (instr op.UNDEFINE (pos 0) 0 line) place (operand.Place p ∷ below) memory trace has ∙ rw (e.2, stands, there) refl

  -- `Undefine` of a variable that has ended
  pub undefine_fails_ended : (low high : ℤ) (v : Component) (p : Place)
      → slice_get G.instructions place ≡ Some (instr op.UNDEFINE (pos 0) 0 line)
      → (injection : Injection) (memory : MachineMemory) → IsSpot injection memory.types v p
      → IsLike memory.types p.type_number (type.Ordinal low high) → (s : meaning.State)
      → Matches layout G injection s memory → has_ended v.allocation s ≡ true
      → FailsWith G (at place (operand.Place p ∷ below) memory s.trace) 1 11 (unit_in G memory.frames) line s
  undefine_fails_ended low high v p has injection memory spot described s matches ended =
      let e = like_ordinal memory.types p.type_number low high described in
      record { fails = outcome_at G (instr op.UNDEFINE (pos 0) 0 line) place (operand.Place p ∷ below) memory s.trace has ∙ rw (e.2, place_ended matches spot ended) refl }

  -- it is undefined then on both sides
  pub undefine_does : {untouched : Slots} {Here : Facts} (low high : ℤ) (v : Component) (p : Place)
      → slice_get G.instructions place ≡ Some (instr op.UNDEFINE (pos 0) 0 line)
      → (injection : Injection) (memory : MachineMemory) → IsSpot injection memory.types v p
      → IsLike memory.types p.type_number (type.Ordinal low high) → (s : meaning.State)
      → Matches layout G injection s memory → has_ended v.allocation s ≡ false
      → Lasts untouched Here → Here injection s memory
      → Does layout G Here (at place (operand.Place p ∷ below) memory s.trace) 1 (place + 1) (Inside untouched injection memory (Bare below tt)) (assigned v Undefined s)
  undefine_does low high v p has injection memory spot described s matches living lasts known =
      let x : StandsOrdinal injection s memory v p low high = ordinal_stands low high matches spot described living in
      let a : Allocation = x.allocation in
      let r : Represents injection memory.segments memory.types p.segment a = x.represents in
      let words : List ℤ = slice_set r.words p.offset undefined in
      let old = ordinal_word (value_along a.value v.path) x.word in
      let holds : HasAt injection a.type_value (value_with a.value v.path Undefined) (slice_get words) 0 = has_with-bare injection a.type_value v.path a.value Undefined (slice_get r.words) (slice_get words) (record { offset = p.offset; type_value = type.Ordinal low high }) x.leads (set-same_but r.words undefined (record { offset = p.offset; type_value = type.Ordinal low high }) refl) r.holds (ordinal-undefined (value_along a.value v.path) r.words p.offset x.word) in
      record {
        injection = injection;
        memory = storing memory p.segment r.type_number words;
        operands = below;
        does = undefine_outcome memory s.trace p low high r.type_number r.words old.0 has described r.stands old.1;
        matches = matches_assigned matches v.allocation p.segment a spot.is_in x.is x.lives r words v.path Undefined (length-set r.words p.offset undefined) holds;
        here = lasts.by injection injection s (assigned v Undefined s) memory (storing memory p.segment r.type_number words) (record { grown = grown_storing matches v.allocation p.segment a spot.is_in x.is x.lives r words; routine = same_routine-refl memory.frames; own = λ k. refl; calls = refl }) known;
        post = record { grown = grown_storing matches v.allocation p.segment a spot.is_in x.is x.lives r words; routine = same_routine-refl memory.frames; operands_are = refl };
      }

  -- so is one of any type that is none of a file
  pub undefine_does_any : {untouched : Slots} {Here : Facts} (t : TypeValue) (v : Component) (p : Place) → IsTypeValue t
      → slice_get G.instructions place ≡ Some (instr op.UNDEFINE (pos 0) 0 line)
      → (injection : Injection) (memory : MachineMemory) → IsSpot injection memory.types v p
      → IsLike memory.types p.type_number t → (s : meaning.State)
      → Matches layout G injection s memory → has_ended v.allocation s ≡ false
      → Lasts untouched Here → Here injection s memory
      → Does layout G Here (at place (operand.Place p ∷ below) memory s.trace) (size_of t) (place + 1) (Inside untouched injection memory (Bare below tt)) (assigned v Undefined s)
  undefine_does_any (type.Ordinal low high) v p valid has injection memory spot described s matches living lasts known = undefine_does low high v p has injection memory spot described s matches living lasts known
  undefine_does_any type.Text v p valid has injection memory spot described s matches living lasts known = absurd valid
  undefine_does_any (type.Array low high of) v p valid has injection memory spot described s matches living lasts known = many_does (type.Array low high of) v p injection memory spot described s matches living lasts known tt valid has
  undefine_does_any (type.Record ts) v p valid has injection memory spot described s matches living lasts known = many_does (type.Record ts) v p injection memory spot described s matches living lasts known tt valid has
  undefine_does_any (type.Set low high) v p valid has injection memory spot described s matches living lasts known = many_does (type.Set low high) v p injection memory spot described s matches living lasts known tt valid has
  undefine_does_any (type.Initial of start) v p valid has injection memory spot described s matches living lasts known =
      absurd (no_like_initial memory.types p.type_number of start described)
