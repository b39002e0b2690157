-- Types that are met, for src/types.rt.
use Rattle.std.proofs.Common.{◌≡◌, ℕ, ◌+◌, pos, true, false, leb, ltb, cond, length, List, [], ◌∷◌, ◌++◌, Bool, Option, Some, None, Ok, refl, ap}
use Rattle.std.specs.Prelude.{◌&&◌}
use Rattle.ep_memory.specs.Stores.{Store, live}
use Rattle.ep_object.specs.Effects.{Continues, Fails}
use Rattle.ep_object.specs.Operands.{Operand, Word}
use Rattle.ep_object.specs.State.{TypeTable, live_limit, type_limit}
use Rattle.ep_object.specs.Types.{entry_number, interned, interned_over, numbered, numbering_as, with_entry, words_of_entry}
use Rattle.ep_object.specs.WordRows.{push_row}
use Rattle.ep_object.specs.declared.state.TypeEntry.{TypeEntry}
use Rattle.ep_rows.specs.Meeting.{IsMet}
use Rattle.ep_rows.specs.Parts.{typing}
use Rattle.ep_rows.specs.Steps.{IsStep}
use Rattle.ep_rows.specs.declared.step.Step.{Step}
use Rattle.ep_rows.specs.declared.step.Step.TheVariants.{Next, Goto, Error, Broken, Full, NoMemory, Rare}
use Rattle.ep_values.specs.declared.run_error.TheConstants as error

-- the number of a type is left
number_left : (n : ℕ) (types : TypeTable) (m : Store) (st st2 : List Operand) (s : Step) → IsStep (push_row (pos n) st) s st2
    → IsStep (Continues (typing (Word (pos n) ∷ st) types m)) s (typing st2 types m)
number_left n types m st st2 Next h =
    let same : st2 ≡ Word (pos n) ∷ st = cc in
    ap (λ o. Continues (typing o types m)) same
number_left n types m st st2 (Goto to) h = cc
number_left n types m st st2 (Error k) h = cc
number_left n types m st st2 Broken h = cc
number_left n types m st st2 Full h = absurd h
number_left n types m st st2 NoMemory h = tt
number_left n types m st st2 Rare h = absurd h

-- where it is met its number is left
pub met_left : (e : TypeEntry) (types later : TypeTable) (m after : Store) (n : ℕ) (st st2 : List Operand) (s : Step)
    → IsMet e types m (Ok n) later after → IsStep (push_row (pos n) st) s st2 → IsStep (interned e st (typing st types m)) s (typing st2 later after)
met_left e types later m after n st st2 s met pushed = rw (met st (λ k u. Continues (numbered k st u))) (number_left n later after st st2 s pushed)

-- ---- which operands there were plays no part

-- where a type is met
pub interned_any : (e : TypeEntry) (rest st st2 : List Operand) (types : TypeTable) (n : ℕ)
    → interned e rest (record { operands = st; types = types; live = n }) ≡ interned e rest (record { operands = st2; types = types; live = n })
interned_any e rest st st2 types n = by_number (entry_number e types)
  where
    by_room : (b : Bool)
        → cond b (Continues (numbered (length types) rest (with_entry e (record { operands = st; types = types; live = n })))) (Fails error.STORAGE_LIMIT)
        ≡ cond b (Continues (numbered (length types) rest (with_entry e (record { operands = st2; types = types; live = n })))) (Fails error.STORAGE_LIMIT)
    by_room true = refl
    by_room false = refl

    by_number : (o : Option ℕ) → numbering_as o e (λ k u. Continues (numbered k rest u)) (record { operands = st; types = types; live = n })
        ≡ numbering_as o e (λ k u. Continues (numbered k rest u)) (record { operands = st2; types = types; live = n })
    by_number (Some k) = refl
    by_number None = by_room (ltb (length types) type_limit && leb (n + words_of_entry e) live_limit)

-- where its bare form is met before it
pub interned_anywhere : (bare : Option TypeEntry) (whole : Option ℕ → TypeEntry) (rest st st2 : List Operand) (types : TypeTable) (m : Store)
    → interned_over bare whole rest (typing st types m) ≡ interned_over bare whole rest (typing st2 types m)
interned_anywhere None whole rest st st2 types m = interned_any (whole None) rest st st2 types (live m)
interned_anywhere (Some bare) whole rest st st2 types m = by_number (entry_number bare types)
  where
    by_room : (b : Bool)
        → cond b (interned (whole (Some (length types))) rest (with_entry bare (typing st types m))) (Fails error.STORAGE_LIMIT)
        ≡ cond b (interned (whole (Some (length types))) rest (with_entry bare (typing st2 types m))) (Fails error.STORAGE_LIMIT)
    by_room true = interned_any (whole (Some (length types))) rest st st2 (types ++ bare ∷ []) (live m + words_of_entry bare)
    by_room false = refl

    by_number : (o : Option ℕ)
        → numbering_as o bare (λ k u. interned (whole (Some k)) rest u) (typing st types m)
        ≡ numbering_as o bare (λ k u. interned (whole (Some k)) rest u) (typing st2 types m)
    by_number (Some k) = interned_any (whole (Some k)) rest st st2 types (live m)
    by_number None = by_room (ltb (length types) type_limit && leb (live m + words_of_entry bare) live_limit)
