-- What the rows on sets lead to.
use Rattle.std.proofs.Common.{◌≡◌, ℕ, ℤ, pos, negsuc, ◌+◌, Bool, true, false, not, ◌&&◌, ltb, List, [], ◌∷◌, length, Some, slice_get, refl, ap, ◌∙◌, arith, ◌<◌}
use Rattle.std.specs.Prelude.{int_lt, int_le, IsTrue}
use Rattle.std.proofs.lemmas.Bool.Decides.{nat_tests}
use Rattle.std.proofs.lemmas.Bool.{lt-ltb}
use Rattle.ep_simulation.specs.Follows.{Facts, Inside}
use Rattle.ep_simulation.specs.Layouts.{Layout}
use Rattle.ep_simulation.specs.Matching.{MachineMemory, at, Injection, Matches, Slots}
use Rattle.ep_object.specs.Operands.{Operand, Word, Set}
use Rattle.ep_object.specs.Runs.{unit_in}
use Rattle.ep_object.specs.Sets.{IsSet, member_limit}
use Rattle.ep_object.specs.SetRows.{least_from}
use Rattle.ep_object.specs.State.{Running}
use Rattle.ep_object.specs.WordRows as rows
use Rattle.ep_object.specs.declared.code.Image.{Image}
use Rattle.ep_object.specs.declared.code.Instr.{Instr}
use Rattle.ep_object.proofs.public.SetWords.{members_set}
use Rattle.ep_simulation.proofs.public.following.Choices.{Reads, Misses, Finds}
use Rattle.ep_simulation.proofs.public.matching.MoreMemory.{inside_here}
use Rattle.ep_simulation.proofs.rows.Answers.{bit-same}
use Rattle.ep_simulation.proofs.public.rows.Rows.{instr, in_one, outcome_at, RowPushes}
use Rattle.ep_values.specs.Events.{Trace}
use Rattle.ep_values.specs.Operations.{ordinal_of}
use Rattle.ep_values.specs.Sets.{has, is_member, is_ordinal, is_same_set, is_subset, least_member, with_member, with_number, with_numbers, with_span, union, difference, intersection, symmetric_difference}
use Rattle.ep_meaning.specs.Steps as meaning
use Rattle.ep_object.specs.declared.op.TheConstants as op
use Rattle.ep_values.specs.declared.run_error.TheConstants as run_error

-- the set of these members on top
pub record MembersOnTop (below : List Operand) (ms : List ℕ) (injection : Injection) (memory : MachineMemory)
    (operands : List Operand) : Type 0 where
  pub is_set : IsSet ms
  pub is : operands ≡ Set ms ∷ below

module _ (G : Image) (place line : ℕ) (below : List Operand) where
  -- `SetNone`
  pub none_pushes : slice_get G.instructions place ≡ Some (instr op.SET_NONE (pos 0) 0 line) → RowPushes G place below 0 (Set [] ∷ below)
  none_pushes has memory trace = outcome_at G (instr op.SET_NONE (pos 0) 0 line) place below memory trace has

  -- ---- operators

  -- `SetOp` for +
  pub union_pushes : (ms ns : List ℕ) → slice_get G.instructions place ≡ Some (instr op.SET_OP (pos 0) 0 line) → RowPushes G place (Set ns ∷ Set ms ∷ below) 0 (Set (union ms ns) ∷ below)
  union_pushes ms ns has memory trace = outcome_at G (instr op.SET_OP (pos 0) 0 line) place (Set ns ∷ Set ms ∷ below) memory trace has

  -- `SetOp` for -
  pub difference_pushes : (ms ns : List ℕ) → slice_get G.instructions place ≡ Some (instr op.SET_OP (pos 1) 0 line) → RowPushes G place (Set ns ∷ Set ms ∷ below) 0 (Set (difference ms ns) ∷ below)
  difference_pushes ms ns has memory trace = outcome_at G (instr op.SET_OP (pos 1) 0 line) place (Set ns ∷ Set ms ∷ below) memory trace has

  -- `SetOp` for *
  pub intersection_pushes : (ms ns : List ℕ) → slice_get G.instructions place ≡ Some (instr op.SET_OP (pos 2) 0 line) → RowPushes G place (Set ns ∷ Set ms ∷ below) 0 (Set (intersection ms ns) ∷ below)
  intersection_pushes ms ns has memory trace = outcome_at G (instr op.SET_OP (pos 2) 0 line) place (Set ns ∷ Set ms ∷ below) memory trace has

  -- `SetOp` for ><
  pub symmetric_difference_pushes : (ms ns : List ℕ) → slice_get G.instructions place ≡ Some (instr op.SET_OP (pos 3) 0 line) → RowPushes G place (Set ns ∷ Set ms ∷ below) 0 (Set (symmetric_difference ms ns) ∷ below)
  symmetric_difference_pushes ms ns has memory trace = outcome_at G (instr op.SET_OP (pos 3) 0 line) place (Set ns ∷ Set ms ∷ below) memory trace has

  -- ---- comparisons

  -- what a comparison pushes
  compared : (memory : MachineMemory) (trace : Trace) (b : Bool) → in_one (Running 0 (at (place + 1) (Word (rows.bit b) ∷ below) memory trace)) ≡ in_one (Running 0 (at (place + 1) (Word (ordinal_of b) ∷ below) memory trace))
  compared memory trace b = ap (λ z. in_one (Running 0 (at (place + 1) (Word z ∷ below) memory trace))) (bit-same b)

  -- `SetCmp` for =
  pub same_pushes : (ms ns : List ℕ) → slice_get G.instructions place ≡ Some (instr op.SET_CMP (pos 0) 0 line) → RowPushes G place (Set ns ∷ Set ms ∷ below) 0 (Word (ordinal_of (is_same_set ms ns)) ∷ below)
  same_pushes ms ns has memory trace = outcome_at G (instr op.SET_CMP (pos 0) 0 line) place (Set ns ∷ Set ms ∷ below) memory trace has ∙ compared memory trace (is_same_set ms ns)

  -- `SetCmp` for <>
  pub other_pushes : (ms ns : List ℕ) → slice_get G.instructions place ≡ Some (instr op.SET_CMP (pos 1) 0 line) → RowPushes G place (Set ns ∷ Set ms ∷ below) 0 (Word (ordinal_of (not (is_same_set ms ns))) ∷ below)
  other_pushes ms ns has memory trace = outcome_at G (instr op.SET_CMP (pos 1) 0 line) place (Set ns ∷ Set ms ∷ below) memory trace has ∙ compared memory trace (not (is_same_set ms ns))

  -- `SetCmp` for <=
  pub subset_pushes : (ms ns : List ℕ) → slice_get G.instructions place ≡ Some (instr op.SET_CMP (pos 4) 0 line) → RowPushes G place (Set ns ∷ Set ms ∷ below) 0 (Word (ordinal_of (is_subset ms ns)) ∷ below)
  subset_pushes ms ns has memory trace = outcome_at G (instr op.SET_CMP (pos 4) 0 line) place (Set ns ∷ Set ms ∷ below) memory trace has ∙ compared memory trace (is_subset ms ns)

  -- `SetCmp` for >=
  pub superset_pushes : (ms ns : List ℕ) → slice_get G.instructions place ≡ Some (instr op.SET_CMP (pos 5) 0 line) → RowPushes G place (Set ns ∷ Set ms ∷ below) 0 (Word (ordinal_of (is_subset ns ms)) ∷ below)
  superset_pushes ms ns has memory trace = outcome_at G (instr op.SET_CMP (pos 5) 0 line) place (Set ns ∷ Set ms ∷ below) memory trace has ∙ compared memory trace (is_subset ns ms)

  -- `In`
  pub in_pushes : (z : ℤ) (ms : List ℕ) → slice_get G.instructions place ≡ Some (instr op.IN (pos 0) 0 line) → RowPushes G place (Set ms ∷ Word z ∷ below) 0 (Word (ordinal_of (is_member z ms)) ∷ below)
  in_pushes z ms has memory trace = outcome_at G (instr op.IN (pos 0) 0 line) place (Set ms ∷ Word z ∷ below) memory trace has ∙ compared memory trace (is_member z ms)

  -- `Card`
  pub card_pushes : (ms : List ℕ) → slice_get G.instructions place ≡ Some (instr op.CARD (pos 0) 0 line) → RowPushes G place (Set ms ∷ below) 0 (Word (pos (length ms)) ∷ below)
  card_pushes ms has memory trace = outcome_at G (instr op.CARD (pos 0) 0 line) place (Set ms ∷ below) memory trace has

  -- `Next` from 0 on
  pub least_pushes : (ms : List ℕ) → slice_get G.instructions place ≡ Some (instr op.NEXT (pos 0) 0 line) → RowPushes G place (Set ms ∷ Word (pos 0) ∷ below) 0 (Word (least_member ms) ∷ below)
  least_pushes ms there memory trace = outcome_at G (instr op.NEXT (pos 0) 0 line) place (Set ms ∷ Word (pos 0) ∷ below) memory trace there ∙ ap (λ z. in_one (Running 0 (at (place + 1) (Word z ∷ below) memory trace))) (least_is ms)
    where
      least_is : (ns : List ℕ) → least_from (pos 0) ns ≡ least_member ns
      least_is [] = refl
      least_is (n ∷ ns) =
          let first : IsTrue (int_le (pos 0) (pos n)) = grind (arith, nat_tests) in
          rw first refl

-- ---- members that are added

-- `SetAdd`, of an ordinal that may be a member
pub add_pushes : (G : Image) (place line : ℕ) (below : List Operand) (m : ℕ) (ms : List ℕ) → m < member_limit → slice_get G.instructions place ≡ Some (instr op.SET_ADD (pos 0) 0 line)
    → RowPushes G place (Word (pos m) ∷ Set ms ∷ below) 0 (Set (with_member m ms) ∷ below)
add_pushes G place line below m ms less has memory trace =
    outcome_at G (instr op.SET_ADD (pos 0) 0 line) place (Word (pos m) ∷ Set ms ∷ below) memory trace has ∙ rw (lt-ltb m member_limit less) refl

module _ {untouched : Slots} {Here : Facts} (layout : Layout) (G : Image) (place line : ℕ) (below : List Operand) (injection : Injection) (memory : MachineMemory) (s : meaning.State) (matches : Matches layout G injection s memory) (known : Here injection s memory) (ms : List ℕ) where
  -- `SetAdd`
  pub add_reads : (z : ℤ) → slice_get G.instructions place ≡ Some (instr op.SET_ADD (pos 0) 0 line)
      → Reads layout G Here (at place (Word z ∷ Set ms ∷ below) memory s.trace) run_error.SET_MEMBER (unit_in G memory.frames) line (place + 1) (λ ns. Inside untouched injection memory (MembersOnTop below ns)) s (with_number z ms)
  add_reads (negsuc n) has = Misses refl (record { fails = outcome_at G (instr op.SET_ADD (pos 0) 0 line) place (Word (negsuc n) ∷ Set ms ∷ below) memory s.trace has })
  add_reads (pos n) has = go (ltb n member_limit) refl
    where
      go : (b : Bool) → ltb n member_limit ≡ b
          → Reads layout G Here (at place (Word (pos n) ∷ Set ms ∷ below) memory s.trace) run_error.SET_MEMBER (unit_in G memory.frames) line (place + 1) (λ ns. Inside untouched injection memory (MembersOnTop below ns)) s (with_number (pos n) ms)
      go false e = Misses (rw e refl) (record { fails = outcome_at G (instr op.SET_ADD (pos 0) 0 line) place (Word (pos n) ∷ Set ms ∷ below) memory s.trace has ∙ rw e refl })
      go true e =
          Finds (with_member n ms) (rw e refl) (record {
            injection = injection;
            memory = memory;
            operands = Set (with_member n ms) ∷ below;
            does = outcome_at G (instr op.SET_ADD (pos 0) 0 line) place (Word (pos n) ∷ Set ms ∷ below) memory s.trace has ∙ rw e refl;
            matches = matches;
            here = known;
            post = inside_here (record { is_set = members_set _; is = refl });
          })

  -- `SetSpan`
  pub span_reads : (lo hi : ℤ) → IsSet ms → slice_get G.instructions place ≡ Some (instr op.SET_SPAN (pos 0) 0 line)
      → Reads layout G Here (at place (Word hi ∷ Word lo ∷ Set ms ∷ below) memory s.trace) run_error.SET_MEMBER (unit_in G memory.frames) line (place + 1) (λ ns. Inside untouched injection memory (MembersOnTop below ns)) s (with_numbers lo hi ms)
  span_reads lo hi is_set has = go (int_lt hi lo) (is_ordinal lo && is_ordinal hi) refl refl
    where
      i : Instr
      i = instr op.SET_SPAN (pos 0) 0 line

      go : (b c : Bool) → int_lt hi lo ≡ b → (is_ordinal lo && is_ordinal hi) ≡ c
          → Reads layout G Here (at place (Word hi ∷ Word lo ∷ Set ms ∷ below) memory s.trace) run_error.SET_MEMBER (unit_in G memory.frames) line (place + 1) (λ ns. Inside untouched injection memory (MembersOnTop below ns)) s (with_numbers lo hi ms)
      go true c e f =
          Finds ms (rw e refl) (record {
            injection = injection;
            memory = memory;
            operands = Set ms ∷ below;
            does = outcome_at G i place (Word hi ∷ Word lo ∷ Set ms ∷ below) memory s.trace has ∙ rw e refl;
            matches = matches;
            here = known;
            post = inside_here (record { is_set = is_set; is = refl });
          })
      go false false e f = Misses (rw (e, f) refl) (record { fails = outcome_at G i place (Word hi ∷ Word lo ∷ Set ms ∷ below) memory s.trace has ∙ rw (e, f) refl })
      go false true e f =
          Finds (with_span lo hi ms) (rw (e, f) refl) (record {
            injection = injection;
            memory = memory;
            operands = Set (with_span lo hi ms) ∷ below;
            does = outcome_at G i place (Word hi ∷ Word lo ∷ Set ms ∷ below) memory s.trace has ∙ rw (e, f) refl;
            matches = matches;
            here = known;
            post = inside_here (record { is_set = members_set _; is = refl });
          })
