-- The routines that structured values call stand in the image.
use Rattle.std.proofs.Common.{◌≡◌, ℕ, pos, suc, ◌+◌, ◌≤◌, ◌<◌, List, [], ◌∷◌, ◌++◌, length, length-append, map, Some, slice_get, refl, sym, ap, ◌∙◌, subst, arith}
use Rattle.std.proofs.lemmas.Option.{slice_get_within}
use Rattle.ep_gen_code.specs.declared.code.TheConstants as code_line
use Rattle.ep_gen_code.specs.declared.references.TheConstants as routine
use Rattle.ep_gen_code.specs.Instructions.{instr}
use Rattle.ep_gen_unit.specs.UnitCode.{IsUnitCode, IsShuffleCode, StandsIn, fill_code, plain_at, swap_code}
use Rattle.ep_gen_unit.proofs.Parts.{code_stands-parts}
use Rattle.ep_gen_unit.proofs.Referred.{swap_referred}
use Rattle.ep_gen_unit.proofs.TypeRoutines.{behind_list, call_placed}
use Rattle.ep_gen_unit.proofs.Units.{moved_own, of_object, routine_there}
use Rattle.ep_object.specs.Placing.{CodeStands, Placement, Stands, moved, placed, placed_routine}
use Rattle.ep_simulation.specs.Promises.{ArrayRoutinesStand, IsFill, IsRange, IsShuffle, IsSpread, IsSwap, StandFrom, SwapStands, fill_routine, filling_code, range_routine, ranging_code, spread_routine, spreading_code, swap_routine}
use Rattle.ep_object.specs.Routines.{routine_of}
use Rattle.ep_object.specs.declared.code.CodeRoutine.{CodeRoutine}
use Rattle.ep_object.specs.declared.code.Image.{Image}
use Rattle.ep_object.specs.declared.code.Instr.{Instr}
use Rattle.ep_object.specs.declared.code.Object.{Object}
use Rattle.ep_object.specs.declared.code.Reference.{Reference}
use Rattle.ep_object.specs.declared.op.TheConstants as op
use Rattle.ep_meaning.specs.Units.{own}
use Rattle.ep_typed.specs.Routines.{first_private}
use Rattle.ep_typed.specs.declared.unit.Unit.{Unit as TypedUnit}

-- code of an object stands in the image as it is placed
stand_from : (G : Image) (ps : List Placement) (p : Placement) (references : List Reference) (at : ℕ) (is : List Instr) → CodeStands G ps p references at is → StandFrom G (p.instructions.before + at) (map (placed ps p references) is)
stand_from G ps p references at [] h = tt
stand_from G ps p references at (i ∷ is) h =
    (h.0, subst (λ m. StandFrom G m (map (placed ps p references) is)) {x = p.instructions.before + (at + 1)} {y = p.instructions.before + at + 1} (omega arith) (stand_from G ps p references (at + 1) is h.1))

module _ (u : TypedUnit) (o : Object) (is : IsUnitCode u o) (G : Image) (ps : List Placement) (p : Placement) (stands : Stands G ps p o) where
  -- a routine behind those of the unit, its start and its stop
  behind_stop : (k : ℕ) (x : CodeRoutine) → slice_get (is.swapping ∷ is.filling ∷ is.ranging ∷ is.spreading ∷ is.elaborating) k ≡ Some x → slice_get o.routines (swap_routine (first_private u) + k) ≡ Some x
  behind_stop k x there =
      let blocks = is.blocks in
      let behind : slice_get o.routines (length is.entries + suc (suc k)) ≡ slice_get (is.swapping ∷ is.filling ∷ is.ranging ∷ is.spreading ∷ is.elaborating) k = ap (λ l. slice_get l (length is.entries + suc (suc k))) is.routines ∙ behind_list is.entries (plain_at 0 ∷ plain_at _ ∷ is.swapping ∷ is.filling ∷ is.ranging ∷ is.spreading ∷ is.elaborating) (suc (suc k)) in
      subst (λ n. slice_get o.routines n ≡ Some x) {x = length is.entries + suc (suc k)} {y = length u.routines + 2 + k} (omega (arith, blocks.count)) (behind ∙ there)

  -- a routine of the object with this number and this code, in the image
  record Placed (number : ℕ) (x : CodeRoutine) (code : List Instr) : Type 0 where
    there : routine_of G (moved p.routines number) ≡ Some (placed_routine p x)
    numbered : moved p.routines number < length G.routines
    code_stands : CodeStands G ps p o.references x.entry code
    entry : moved p.instructions x.entry ≡ p.instructions.before + x.entry
    room_for : x.entry + length code ≤ p.instructions.own

  placed_at : (number : ℕ) (x : CodeRoutine) (code : List Instr) → slice_get o.routines number ≡ Some x → StandsIn o.instructions x.entry code → 0 < length code → Placed number x code
  placed_at number x code in_object s some =
      let object = of_object u o is G ps p stands in
      let whole : CodeStands G ps p o.references 0 (s.before ++ (code ++ s.after)) = subst (λ k. CodeStands G ps p o.references 0 k) s.is stands.code in
      let first = code_stands-parts G ps p o.references 0 s.before (code ++ s.after) whole in
      let second = code_stands-parts G ps p o.references (0 + length s.before) code s.after first.1 in
      let among : moved p.routines number ≡ p.routines.before + number = moved_own p.routines number (omega (arith, object.routines, slice_get_within o.routines number x in_object)) in
      let room : x.entry + length code ≤ p.instructions.own = omega (arith, object.instructions, ap length s.is, length-append s.before (code ++ s.after), length-append code s.after, s.from) in
      record {
        there = routine_there u o is G ps p stands number x in_object;
        numbered = omega (arith, among, slice_get_within G.routines (p.routines.before + number) (placed_routine p x) (stands.routines number x in_object));
        code_stands = subst (λ k. CodeStands G ps p o.references k code) {x = 0 + length s.before} {y = x.entry} (omega (arith, s.from)) second.0;
        entry = moved_own p.instructions x.entry (omega (arith, room, some));
        room_for = room;
      }

  -- ---- the one that leaves two operands in the other order

  abbrev swap_number : ℕ
  swap_number = swap_routine (first_private u)

  swapping : Placed swap_number is.swapping swap_code
  swapping =
      let swap = is.swaps in
      placed_at swap_number is.swapping swap_code (subst (λ n. slice_get o.routines n ≡ Some is.swapping) {x = swap_number + 0} {y = swap_number} (omega arith) (behind_stop 0 is.swapping refl)) swap.stands (omega arith)

  swaps : IsSwap G (moved p.routines swap_number)
  swaps =
      record {
        slots = 0;
        shuffles = record {
          its = placed_routine p is.swapping;
          there = swapping.there;
          numbered = swapping.numbered;
          takes = ap (λ (c : CodeRoutine). c.arguments) (is.swaps).plain;
          has_slots = ap (λ (c : CodeRoutine). c.slots) (is.swaps).plain;
          line = code_line.NO_LINE;
          stands = subst (λ m. StandFrom G m swap_code) (sym swapping.entry) (stand_from G ps p o.references (is.swapping).entry swap_code swapping.code_stands);
        };
      }

  -- ---- the one that gives the value of a component of an array to others

  abbrev fill_number : ℕ
  fill_number = fill_routine (first_private u)

  abbrev fill_entry : ℕ
  fill_entry = (is.filling).entry

  filling : Placed fill_number is.filling (fill_code fill_entry)
  filling =
      let fill = is.fills in
      placed_at fill_number is.filling (fill_code fill_entry) (subst (λ n. slice_get o.routines n ≡ Some is.filling) {x = swap_number + 1} {y = fill_number} (omega arith) (behind_stop 1 is.filling refl)) fill.stands (omega arith)

  -- the reference to the other one
  swap_named : slice_get o.references routine.SWAP ≡ Some (record { unit = u.name; number = swap_number })
  swap_named = swap_referred (own u) u o is refl

  -- its jumps lead to places of its own
  goal_is : (k : ℕ) → k < 21 → moved p.instructions (fill_entry + k) ≡ moved p.instructions fill_entry + k
  goal_is k less = moved_own p.instructions (fill_entry + k) (omega (arith, filling.room_for, less)) ∙ omega (arith, filling.entry)

  placed_code : map (placed ps p o.references) (fill_code fill_entry) ≡ filling_code (moved p.instructions fill_entry) (moved p.routines swap_number) code_line.NO_LINE
  placed_code = rw (swap_named, call_placed u o is G ps p stands swap_number (instr op.CALL (pos routine.SWAP) 0 code_line.NO_LINE), goal_is 19 (omega arith), goal_is 3 (omega arith)) refl

  fills : IsFill G (moved p.routines fill_number)
  fills =
      record {
        swap = moved p.routines swap_number;
        swaps = swaps;
        shuffles = record {
          its = placed_routine p is.filling;
          there = filling.there;
          numbered = filling.numbered;
          takes = ap (λ (c : CodeRoutine). c.arguments) (is.fills).plain;
          has_slots = ap (λ (c : CodeRoutine). c.slots) (is.fills).plain;
          line = code_line.NO_LINE;
          stands = subst (StandFrom G (moved p.instructions fill_entry)) placed_code (subst (λ m. StandFrom G m (map (placed ps p o.references) (fill_code fill_entry))) (sym filling.entry) (stand_from G ps p o.references fill_entry (fill_code fill_entry) filling.code_stands));
        };
      }

  -- ---- the other ones that give values to components of arrays

  -- one with this code, in which no instruction depends on where it stands
  shuffle_placed : (k operands : ℕ) (x : CodeRoutine) (its : ℕ → List Instr) → slice_get (is.swapping ∷ is.filling ∷ is.ranging ∷ is.spreading ∷ is.elaborating) k ≡ Some x → IsShuffleCode o.instructions operands (its code_line.NO_LINE) x → 0 < length (its code_line.NO_LINE)
      → map (placed ps p o.references) (its code_line.NO_LINE) ≡ its code_line.NO_LINE → IsShuffle G (moved p.routines (swap_number + k)) operands 1 (λ entry. its)
  shuffle_placed k operands x its there code some same =
      let at = placed_at (swap_number + k) x (its code_line.NO_LINE) (behind_stop k x there) code.stands some in
      record {
        its = placed_routine p x;
        there = at.there;
        numbered = at.numbered;
        takes = ap (λ (c : CodeRoutine). c.arguments) code.plain;
        has_slots = ap (λ (c : CodeRoutine). c.slots) code.plain;
        line = code_line.NO_LINE;
        stands = subst (StandFrom G (moved p.instructions x.entry)) same (subst (λ m. StandFrom G m (map (placed ps p o.references) (its code_line.NO_LINE))) (sym at.entry) (stand_from G ps p o.references x.entry (its code_line.NO_LINE) at.code_stands));
      }

  abbrev range_number : ℕ
  range_number = range_routine (first_private u)

  abbrev spread_number : ℕ
  spread_number = spread_routine (first_private u)

  ranges : IsRange G (moved p.routines range_number)
  ranges = subst (λ n. IsRange G (moved p.routines n)) {x = swap_number + 2} {y = range_number} (omega arith) (shuffle_placed 2 3 is.ranging ranging_code refl is.ranges (omega arith) refl)

  spreads : IsSpread G (moved p.routines spread_number)
  spreads = subst (λ n. IsSpread G (moved p.routines n)) {x = swap_number + 3} {y = spread_number} (omega arith) (shuffle_placed 3 5 is.spreading spreading_code refl is.spreads (omega arith) refl)

  -- ---- the unit has all of them

  pub swap_there : SwapStands G ps u.name (first_private u)
  swap_there = record { routine = moved p.routines swap_number; is = swaps; placed = call_placed u o is G ps p stands swap_number }

  pub arrays_there : ArrayRoutinesStand G ps u.name (first_private u)
  arrays_there =
      record {
        fill = record { routine = moved p.routines fill_number; is = fills; placed = call_placed u o is G ps p stands fill_number };
        range = record { routine = moved p.routines range_number; is = ranges; placed = call_placed u o is G ps p stands range_number };
        spread = record { routine = moved p.routines spread_number; is = spreads; placed = call_placed u o is G ps p stands spread_number };
      }
