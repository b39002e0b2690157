-- What `Field` leads to, where the machine matches.
use Rattle.std.proofs.Common.{leb, ◌≡◌, ℕ, ℤ, pos, zero, suc, ◌+◌, ◌≤◌, true, false, List, [], ◌∷◌, length, Some, slice_get, refl, sym, ap, ◌∙◌, subst, arith}
use Rattle.ep_simulation.proofs.matching.Likes.{AreLike, LikeRecord, like_one, like_record, like_there}
use Rattle.std.proofs.lemmas.Bool.Decides.{nat_tests}
use Rattle.std.proofs.lemmas.Option.{same_Some}
use Rattle.ep_object.specs.Effects.{provided, Continues}
use Rattle.ep_simulation.specs.Follows.{Facts, PlaceOnTop, Inside}
use Rattle.ep_simulation.specs.Layouts.{Layout}
use Rattle.ep_simulation.specs.Matching.{MachineMemory, at, Injection, TypePart, part_along, part_among, part_behind, all_of, IsSpot, IsLike, Represents, Matches, Slots}
use Rattle.ep_object.specs.Operands.{Operand}
use Rattle.ep_object.specs.Operands as operand
use Rattle.ep_object.specs.Places as row
use Rattle.ep_object.specs.Runs.{outcome, after, unit_in}
use Rattle.ep_object.specs.State.{State, Running, TypeTable}
use Rattle.ep_object.specs.Table.{on_operands}
use Rattle.ep_object.specs.declared.code.Image.{Image}
use Rattle.ep_object.specs.declared.state.Place.{Place}
use Rattle.ep_object.specs.declared.state.RecordPart.{RecordPart}
use Rattle.ep_object.specs.declared.state.TypeEntry.{TypeEntry}
use Rattle.ep_simulation.proofs.public.following.Fragments.{Does, FailsWith}
use Rattle.ep_simulation.proofs.public.matching.MoreMemory.{inside_here}
use Rattle.ep_simulation.proofs.public.matching.Standing.{Stands, place_stands, place_ended}
use Rattle.ep_simulation.proofs.matching.Words.{among_within, part_along-on, part_within}
use Rattle.ep_simulation.proofs.public.rows.Rows.{instr, in_one, outcome_at}
use Rattle.ep_meaning.proofs.public.Bares.{bare_size}
use Rattle.ep_values.specs.Events.{Trace}
use Rattle.ep_meaning.specs.Steps.{Component, component, has_ended}
use Rattle.ep_meaning.specs.Steps as meaning
use Rattle.ep_values.specs.TypeValues as type
use Rattle.ep_values.specs.TypeValues.{ComponentTypes, TypeValue, size_of, type_among, bare_of}
use Rattle.ep_object.specs.declared.op.TheConstants as op
use Rattle.ep_values.specs.declared.run_error.TheConstants as run_error

-- a component of a type is somewhere among all
pub record IsAmong (before : ℕ) (ts : ComponentTypes) (k : ℕ) (of : TypeValue) : Type 0 where
  pub part : TypePart
  pub is : part_among before ts k ≡ Some part
  pub type_is : part.type_value ≡ of

pub among_there : (before : ℕ) (ts : ComponentTypes) (k : ℕ) (of : TypeValue) → type_among ts k ≡ Some of → IsAmong before ts k of
among_there before type.no_component k of h = cc
among_there before (type.next_component t ts) zero of h = record { part = record { offset = before; type_value = t }; is = refl; type_is = same_Some t of h }
among_there before (type.next_component t ts) (suc k) of h =
    let x = among_there (before + size_of t) ts k of h in record { part = x.part; is = x.is; type_is = x.type_is }

-- and the table has it there
pub record IsEntered (types : TypeTable) (ps : List RecordPart) (k : ℕ) (part : TypePart) : Type 0 where
  pub entered : RecordPart
  pub is : slice_get ps k ≡ Some entered
  pub offset : entered.offset ≡ part.offset
  pub described : IsLike types entered.type_number part.type_value

pub part_entered : (types : TypeTable) (before : ℕ) (ps : List RecordPart) (ts : ComponentTypes) (k : ℕ) (part : TypePart) → AreLike types before ps ts → part_among before ts k ≡ Some part → IsEntered types ps k part
part_entered types before ps type.no_component k part h is = cc
part_entered types before [] (type.next_component t ts) k part h is = absurd h
part_entered types before (p ∷ ps) (type.next_component t ts) zero part h is =
    subst (λ (q : TypePart). IsEntered types (p ∷ ps) 0 q) (same_Some (record { offset = before; type_value = t }) part is) (record { entered = p; is = refl; offset = h.0; described = h.1 })
part_entered types before (p ∷ ps) (type.next_component t ts) (suc k) part h is =
    let x = part_entered types (before + size_of t) ps ts k part h.2 is in record { entered = x.entered; is = x.is; offset = x.offset; described = x.described }

-- the place of a component of a variable, to which an instruction leads that pops the place of the variable, where that lives
pub record LeadsTo (layout : Layout) (G : Image) (place : ℕ) (below : List Operand) (k : ℕ) (of : TypeValue) (v : Component) (p : Place) (injection : Injection) (memory : MachineMemory) : Type 0 where
  pub its_place : Place
  pub spot : IsSpot injection memory.types (component v k) its_place
  pub described : IsLike memory.types its_place.type_number of
  pub leads : (s : meaning.State) → Matches layout G injection s memory → has_ended v.allocation s ≡ false
      → outcome G (at place (operand.Place p ∷ below) memory s.trace) ≡ record { weight = 0; to = Running 0 (at (place + 1) (operand.Place its_place ∷ below) memory s.trace) }

module _ (layout : Layout) (G : Image) (place line : ℕ) (below : List Operand) (ts : ComponentTypes) (k : ℕ) (of : TypeValue) (v : Component) (p : Place) (has : slice_get G.instructions place ≡ Some (instr op.FIELD (pos k) 0 line)) (injection : Injection) (memory : MachineMemory) (spot : IsSpot injection memory.types v p) (described : IsLike memory.types p.type_number (type.Record ts)) (among : IsAmong 0 ts k of) where
  -- the entry of its type
  pub fields : LikeRecord memory.types p.type_number ts
  fields = like_record memory.types p.type_number ts described

  -- the state before it
  abbrev pub before : Trace → State
  before trace = at place (operand.Place p ∷ below) memory trace

  pub in_table : IsEntered memory.types fields.parts k among.part
  in_table = part_entered memory.types 0 fields.parts ts k among.part fields.like among.is

  pub entry_there : (e : TypeEntry) × (slice_get memory.types in_table.entered.type_number ≡ Some e) × (e.size ≡ size_of among.part.type_value)
  entry_there = like_there memory.types in_table.entered.type_number among.part.type_value in_table.described

  -- what it leads to in a segment that lives
  field_outcome : (trace : Trace) (type_number : ℕ) (words : List ℤ) → slice_get memory.segments p.segment ≡ Some (Some (record { type_number = type_number; words = words }))
      → outcome G (before trace) ≡ in_one (after G (instr op.FIELD (pos k) 0 line) (before trace) (on_operands (before trace) (row.part_behind (record { type_number = type_number; words = words }) p in_table.entered entry_there.0.size below)))
  field_outcome trace type_number words stands =
      outcome_at G (instr op.FIELD (pos k) 0 line) place (operand.Place p ∷ below) memory trace has ∙ rw (fields.stands, in_table.is, entry_there.1, stands) refl

  -- of a variable that has ended
  pub field_fails : (s : meaning.State) → Matches layout G injection s memory → has_ended v.allocation s ≡ true
      → FailsWith G (before s.trace) 0 run_error.DISPOSED (unit_in G memory.frames) line s
  field_fails s matches ended =
      record { fails = outcome_at G (instr op.FIELD (pos k) 0 line) place (operand.Place p ∷ below) memory s.trace has ∙ rw (fields.stands, in_table.is, entry_there.1, place_ended matches spot ended) refl }

  -- the place of the component
  abbrev pub component_place : Place
  component_place = record { segment = p.segment; offset = p.offset + in_table.entered.offset; type_number = in_table.entered.type_number }

  -- it is that of the component of the variable
  component_spot : IsSpot injection memory.types (component v k) component_place
  component_spot =
      let its_type : spot.type_value ≡ type.Record ts = like_one memory.types p.type_number spot.type_value (type.Record ts) spot.described described in
      let leads : part_along (Some (all_of spot.root)) v.path ≡ Some (record { offset = p.offset; type_value = type.Record ts }) = subst (λ t. part_along (Some (all_of spot.root)) v.path ≡ Some (record { offset = p.offset; type_value = t })) its_type spot.leads in
      record {
        is_in = spot.is_in;
        root = spot.root;
        is_of = spot.is_of;
        type_value = among.part.type_value;
        leads =
            part_along-on v.path (Some (all_of spot.root)) k (record { offset = p.offset; type_value = type.Record ts }) leads
            ∙ (ap (part_behind p.offset) among.is ∙ ap (λ n. Some (record { offset = p.offset + n; type_value = among.part.type_value })) (sym in_table.offset));
        described = in_table.described;
      }

  -- and of its type
  component_described : IsLike memory.types component_place.type_number of
  component_described = subst (λ t. IsLike memory.types in_table.entered.type_number t) among.type_is in_table.described

  -- of a variable that lives: the place of the component is there
  field_leads : (s : meaning.State) → Matches layout G injection s memory → has_ended v.allocation s ≡ false
      → outcome G (before s.trace) ≡ record { weight = 0; to = Running 0 (at (place + 1) (operand.Place component_place ∷ below) memory s.trace) }
  field_leads s matches living =
      field_outcome s.trace r.type_number r.words r.stands ∙ ap (λ b. in_one (after G (instr op.FIELD (pos k) 0 line) (before s.trace) (on_operands (before s.trace) (provided b (Continues (operand.Place component_place ∷ below)))))) within
    where
      x : Stands injection s memory v p
      x = place_stands matches spot living

      r : Represents injection memory.segments memory.types p.segment x.allocation
      r = x.represents

      its_type : x.type_value ≡ type.Record ts
      its_type = like_one memory.types p.type_number x.type_value (type.Record ts) x.described described

      leads : part_along (Some (all_of (bare_of (x.allocation).type_value))) v.path ≡ Some (record { offset = p.offset; type_value = type.Record ts })
      leads = subst (λ t. part_along (Some (all_of (bare_of (x.allocation).type_value))) v.path ≡ Some (record { offset = p.offset; type_value = t })) its_type x.leads

      within : leb (p.offset + in_table.entered.offset + entry_there.0.size) (length r.words) ≡ true
      within =
          let whole = part_within v.path (bare_of (x.allocation).type_value) 0 (record { offset = p.offset; type_value = type.Record ts }) leads in
          let inner = among_within 0 ts k among.part among.is in
          let fits : p.offset + in_table.entered.offset + entry_there.0.size ≤ length r.words = omega (arith, whole.1, inner.1, in_table.offset, entry_there.2, r.sized, bare_size (x.allocation).type_value) in
          grind (arith, nat_tests)

  -- which is that of the component of the variable
  pub field_does : {untouched : Slots} {Here : Facts} (s : meaning.State) → Matches layout G injection s memory
      → Here injection s memory → has_ended v.allocation s ≡ false
      → Does layout G Here (before s.trace) 0 (place + 1) (Inside untouched injection memory (PlaceOnTop of below (component v k))) s
  field_does {untouched = untouched} {Here = Here} s matches known living =
      record {
        injection = injection;
        memory = memory;
        operands = operand.Place component_place ∷ below;
        does = field_leads s matches living;
        matches = matches;
        here = known;
        post = inside_here (record { place = component_place; is = refl; spot = component_spot; described = component_described });
      }

  -- what it leads to, wherever the variable lives
  pub field_leads_to : LeadsTo layout G place below k of v p injection memory
  field_leads_to = record { its_place = component_place; spot = component_spot; described = component_described; leads = field_leads }
