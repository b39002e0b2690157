-- Array types, for src/types.rt.
use Rattle.std.proofs.Common.{◌≡◌, ℕ, ℤ, zero, suc, ◌+◌, ◌*◌, true, false, cond, leb, Bool, List, ◌++◌, Option, Some, None, option_map, add-one, append_assoc, sym, ap, ◌∙◌}
use Rattle.std.proofs.lemmas.List.{append-nil}
use Rattle.ep_memory.specs.Stores.{Store}
use Rattle.ep_object.specs.Effects.{Fails}
use Rattle.ep_object.specs.Operands.{Operand, two_words}
use Rattle.ep_object.specs.State.{TypeTable, size_limit}
use Rattle.ep_object.specs.Types.{Numbered, arr_row, array_entry, array_met, array_over, bounds_of, entry_of, interned_over, repeated}
use Rattle.ep_object.specs.declared.state.TypeEntry.{TypeEntry}
use Rattle.ep_rows.proofs.Meeting.{interned_anywhere}
use Rattle.ep_rows.specs.Meeting.{over}
use Rattle.ep_rows.specs.Parts.{typing}
use Rattle.ep_values.specs.Bounds.{count_of}
use Rattle.ep_values.specs.declared.run_error.TheConstants as run_error

-- ---- words one behind the other, for `repeat`

at_either_end : (n : ℕ) (words : List ℤ) → words ++ repeated n words ≡ repeated n words ++ words
at_either_end zero words = append-nil words
at_either_end (suc n) words = ap (λ ws. words ++ ws) (at_either_end n words) ∙ sym (append_assoc words (repeated n words) words)

-- once more
pub repeated_more : (n : ℕ) (words : List ℤ) → repeated (n + 1) words ≡ repeated n words ++ words
repeated_more n words = rw (add-one n) (at_either_end n words)

-- ---- the row, for `arr`

-- the array of a size that was found is met
pub array_row : (types : TypeTable) (m : Store) (st rest : List Operand) (x y lo hi : ℤ) (i c : Numbered) (size : ℕ) (bare : Option TypeEntry) (whole : TypeEntry)
    → two_words st ≡ Some (x, y, rest) → entry_of types x ≡ Some i → bounds_of i.entry.kind ≡ Some (lo, hi) → entry_of types y ≡ Some c
    → Some size ≡ cond (leb (count_of lo hi * c.entry.size) size_limit) (Some (count_of lo hi * c.entry.size)) None
    → bare ≡ option_map (λ b. array_entry lo hi b size) c.entry.bare → whole ≡ array_over lo hi c.number size c.entry.start None
    → arr_row (typing st types m) ≡ interned_over bare (over whole) rest (typing rest types m)
array_row types m st rest x y lo hi i c size bare whole top index bounds component sized bares wholes =
    rw (top, index, bounds, component) (by_size (leb (count_of lo hi * c.entry.size) size_limit) sized)
  where
    by_size : (b : Bool) → Some size ≡ cond b (Some (count_of lo hi * c.entry.size)) None
        → cond b (array_met lo hi (count_of lo hi * c.entry.size) c rest (typing st types m)) (Fails run_error.STORAGE_LIMIT)
        ≡ interned_over bare (over whole) rest (typing rest types m)
    by_size false e = cc
    by_size true e =
        let same : size ≡ count_of lo hi * c.entry.size = cc in
        let bare_is = option_map (λ b. array_entry lo hi b size) c.entry.bare in
        let anywhere = interned_anywhere bare_is (array_over lo hi c.number size c.entry.start) rest st rest types m in
        let by_bare = ap (λ b. interned_over b (array_over lo hi c.number size c.entry.start) rest (typing rest types m)) (sym bares) in
        let by_whole = ap (λ w. interned_over bare (over w) rest (typing rest types m)) (sym wholes) in
        rw (← same) (anywhere ∙ (by_bare ∙ by_whole))
