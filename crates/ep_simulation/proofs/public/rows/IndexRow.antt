-- What `Index` leads to, where the machine matches.
use Rattle.std.proofs.Common.{leb, ltb, cond, ◌≡◌, ℕ, ℤ, pos, ◌+◌, ◌*◌, ◌<◌, ◌≤◌, Bool, true, false, List, ◌∷◌, length, Option, Some, None, slice_get, refl, sym, ap, ◌∙◌, subst, arith}
use Rattle.ep_simulation.proofs.matching.Likes.{LikeArray, like_array, like_one, like_there}
use Rattle.std.proofs.lemmas.Bool.Decides.{nat_tests}
use Rattle.ep_object.specs.Effects.{provided, Continues}
use Rattle.ep_simulation.specs.Follows.{Facts, PlaceOnTop, Inside}
use Rattle.ep_simulation.specs.Layouts.{Layout}
use Rattle.ep_simulation.specs.Matching.{MachineMemory, at, Injection, part_along, part_behind, all_of, IsSpot, Represents, Matches, Slots, IsLike}
use Rattle.ep_object.specs.Operands.{Operand, Word}
use Rattle.ep_object.specs.Operands as operand
use Rattle.ep_object.specs.Places.{component_of}
use Rattle.ep_object.specs.Runs.{outcome, after, unit_in}
use Rattle.ep_object.specs.State.{Running, State}
use Rattle.ep_object.specs.Table.{on_operands}
use Rattle.ep_object.specs.declared.code.Image.{Image}
use Rattle.ep_object.specs.declared.state.Place.{Place}
use Rattle.ep_object.specs.declared.state.TypeEntry.{TypeEntry}
use Rattle.ep_simulation.proofs.public.following.Choices.{Reads, Misses, Finds}
use Rattle.ep_simulation.proofs.public.following.Fragments.{FailsWith}
use Rattle.ep_simulation.proofs.public.matching.MoreMemory.{inside_here}
use Rattle.ep_simulation.proofs.public.matching.Standing.{Stands, place_stands, place_ended, type_of_variable}
use Rattle.ep_simulation.proofs.matching.Words.{ends_before, less_true, part_along-on, part_within}
use Rattle.ep_simulation.proofs.public.rows.Rows.{instr, in_one, outcome_at}
use Rattle.ep_values.specs.Bounds.{below as within_count, component_at, count_of, gap}
use Rattle.ep_meaning.proofs.public.Bares.{bare_number, bare_size}
use Rattle.ep_values.specs.Events.{Trace}
use Rattle.ep_meaning.specs.Steps.{Component, component, component_number, has_ended, type_at}
use Rattle.ep_meaning.specs.Steps as meaning
use Rattle.ep_values.specs.TypeValues as type
use Rattle.ep_values.specs.TypeValues.{TypeValue, size_of, bare_of}
use Rattle.ep_object.specs.declared.op.TheConstants as op
use Rattle.ep_values.specs.declared.run_error.TheConstants as run_error

-- a component that is found is one of those that there are
pub is_within_count : (n : ℕ) (o : Option ℕ) (k : ℕ) → within_count n o ≡ Some k → k < n
is_within_count n None k h = cc
is_within_count n (Some j) k h = go (ltb j n) refl h
  where
    go : (b : Bool) → ltb j n ≡ b → cond b (Some j) None ≡ Some k → k < n
    go true e found = let less : j < n = grind (arith, nat_tests) in let same : j ≡ k = cc in subst (λ i. i < n) same less
    go false e found = cc

module _ (layout : Layout) (G : Image) (place line : ℕ) (below : List Operand) (low high : ℤ) (of : TypeValue) (z : ℤ) (v : Component) (p : Place) (has : slice_get G.instructions place ≡ Some (instr op.INDEX (pos 0) 0 line)) (injection : Injection) (memory : MachineMemory) (spot : IsSpot injection memory.types v p) (described : IsLike memory.types p.type_number (type.Array low high of)) where
  -- the entry of its type
  pub array : LikeArray memory.types p.type_number low high of
  array = like_array memory.types p.type_number low high of described

  -- the state before it
  abbrev pub before : Trace → State
  before trace = at place (Word z ∷ operand.Place p ∷ below) memory trace

  -- what it leads to in a segment that lives
  index_outcome : (trace : Trace) (e : TypeEntry) (type_number : ℕ) (words : List ℤ) → slice_get memory.types array.component ≡ Some e
      → slice_get memory.segments p.segment ≡ Some (Some (record { type_number = type_number; words = words }))
      → outcome G (before trace) ≡ in_one (after G (instr op.INDEX (pos 0) 0 line) (before trace) (on_operands (before trace) (component_of (record { type_number = type_number; words = words }) p array.component e.size (component_at low high z) below)))
  index_outcome trace e type_number words there stands =
      outcome_at G (instr op.INDEX (pos 0) 0 line) place (Word z ∷ operand.Place p ∷ below) memory trace has ∙ rw (array.stands, there, stands) refl

  -- of a variable that has ended
  pub index_fails : (s : meaning.State) → Matches layout G injection s memory → has_ended v.allocation s ≡ true
      → FailsWith G (before s.trace) 0 run_error.DISPOSED (unit_in G memory.frames) line s
  index_fails s matches ended =
      let e = like_there memory.types array.component of array.like in
      record { fails = outcome_at G (instr op.INDEX (pos 0) 0 line) place (Word z ∷ operand.Place p ∷ below) memory s.trace has ∙ rw (array.stands, e.1, place_ended matches spot ended) refl }

  -- the place of a component
  abbrev pub component_place : ℕ → Place
  component_place k = record { segment = p.segment; offset = p.offset + k * size_of of; type_number = array.component }

  -- it is that of the component of the variable
  pub component_spot : (k : ℕ) → k < count_of low high → IsSpot injection memory.types (component v k) (component_place k)
  component_spot k less =
      let its_type : spot.type_value ≡ type.Array low high of = like_one memory.types p.type_number spot.type_value (type.Array low high of) spot.described described in
      let leads : part_along (Some (all_of spot.root)) v.path ≡ Some (record { offset = p.offset; type_value = type.Array low high of }) = subst (λ t. part_along (Some (all_of spot.root)) v.path ≡ Some (record { offset = p.offset; type_value = t })) its_type spot.leads in
      record {
        is_in = spot.is_in;
        root = spot.root;
        is_of = spot.is_of;
        type_value = of;
        leads =
            part_along-on v.path (Some (all_of spot.root)) k (record { offset = p.offset; type_value = type.Array low high of }) leads
            ∙ ap (λ b. part_behind p.offset (cond b (Some (record { offset = k * size_of of; type_value = of })) None)) (less_true k (count_of low high) less);
        described = array.like;
      }

  -- of a variable that lives
  module _ (s : meaning.State) (matches : Matches layout G injection s memory) (living : has_ended v.allocation s ≡ false) where
    x : Stands injection s memory v p
    x = place_stands matches spot living

    r : Represents injection memory.segments memory.types p.segment x.allocation
    r = x.represents

    its_type : x.type_value ≡ type.Array low high of
    its_type = like_one memory.types p.type_number x.type_value (type.Array low high of) x.described described

    leads : part_along (Some (all_of (bare_of (x.allocation).type_value))) v.path ≡ Some (record { offset = p.offset; type_value = type.Array low high of })
    leads = subst (λ t. part_along (Some (all_of (bare_of (x.allocation).type_value))) v.path ≡ Some (record { offset = p.offset; type_value = t })) its_type x.leads

    pub number_is : component_number (type_at v s) z ≡ component_at low high z
    number_is =
        sym (bare_number (type_at v s) z) ∙ ap (λ o. component_number o z) (type_of_variable (type.Array low high of) v p.offset s x.allocation x.is leads)

    abbrev e : TypeEntry
    e = let d = like_there memory.types array.component of array.like in d.0

    there : slice_get memory.types array.component ≡ Some e
    there = let d = like_there memory.types array.component of array.like in d.1

    size : e.size ≡ size_of of
    size = let d = like_there memory.types array.component of array.like in d.2

    -- what it leads to, by the number of the component
    outcome_by : (o : Option ℕ) → component_at low high z ≡ o
        → outcome G (before s.trace) ≡ in_one (after G (instr op.INDEX (pos 0) 0 line) (before s.trace) (on_operands (before s.trace) (component_of (record { type_number = r.type_number; words = r.words }) p array.component (size_of of) o below)))
    outcome_by o is =
        index_outcome s.trace e r.type_number r.words there r.stands
        ∙ ap (λ n. in_one (after G (instr op.INDEX (pos 0) 0 line) (before s.trace) (on_operands (before s.trace) (component_of (record { type_number = r.type_number; words = r.words }) p array.component n (component_at low high z) below)))) size
        ∙ ap (λ y. in_one (after G (instr op.INDEX (pos 0) 0 line) (before s.trace) (on_operands (before s.trace) (component_of (record { type_number = r.type_number; words = r.words }) p array.component (size_of of) y below)))) is

    within : (k : ℕ) → k < count_of low high → leb (p.offset + k * size_of of + size_of of) (length r.words) ≡ true
    within k less =
        let whole = part_within v.path (bare_of (x.allocation).type_value) 0 (record { offset = p.offset; type_value = type.Array low high of }) leads in
        let fits : p.offset + k * size_of of + size_of of ≤ length r.words = omega (arith, whole.1, ends_before k (count_of low high) (size_of of) less, r.sized, bare_size (x.allocation).type_value) in
        grind (arith, nat_tests)

    -- The place of the component with the index is on top.
    pub index_leads : (k : ℕ) → component_at low high z ≡ Some k → outcome G (before s.trace) ≡ in_one (Running 0 (at (place + 1) (operand.Place (component_place k) ∷ below) memory s.trace))
    index_leads k is =
        outcome_by (Some k) is
        ∙ ap (λ b. in_one (after G (instr op.INDEX (pos 0) 0 line) (before s.trace) (on_operands (before s.trace) (provided b (Continues (operand.Place (component_place k) ∷ below)))))) (within k (is_within_count (count_of low high) (gap low z) k is))

    pub index_reads : {untouched : Slots} {Here : Facts} → Here injection s memory
        → Reads layout G Here (before s.trace) run_error.INDEX (unit_in G memory.frames) line (place + 1) (λ k. Inside untouched injection memory (PlaceOnTop of below (component v k))) s (component_number (type_at v s) z)
    index_reads {untouched = untouched} {Here = Here} known = go (component_at low high z) refl
      where
        go : (o : Option ℕ) → component_at low high z ≡ o
            → Reads layout G Here (before s.trace) run_error.INDEX (unit_in G memory.frames) line (place + 1) (λ k. Inside untouched injection memory (PlaceOnTop of below (component v k))) s (component_number (type_at v s) z)
        go None is = Misses (number_is ∙ is) (record { fails = outcome_by None is })
        go (Some k) is =
            let less : k < count_of low high = is_within_count (count_of low high) (gap low z) k is in
            Finds k (number_is ∙ is) (record {
              injection = injection;
              memory = memory;
              operands = operand.Place (component_place k) ∷ below;
              does = index_leads k is;
              matches = matches;
              here = known;
              post = inside_here (record { place = component_place k; is = refl; spot = component_spot k less; described = array.like });
            })
