-- Record types, for the contracts of src/records.rt.
use Rattle.std.proofs.Common.{◌≡◌, ℕ, ℤ, pos, zero, suc, ◌+◌, ◌-◌, ◌<◌, ◌≤◌, ◌||◌, List, [], ◌∷◌, ◌++◌, Bool, Option, Some, None, MatchOption, true, false, length, leb, reverse, take, drop, get_or, option_map, add-one, refl, sym, ap, subst, ◌∙◌, arith}
use Rattle.std.proofs.Math.Seq.{take-suc, drop-cons}
use Rattle.std.proofs.lemmas.List.{reverse-append}
use Rattle.ep_object.specs.Effects.{weighing, having_weighed}
use Rattle.ep_memory.specs.Stores.{Store}
use Rattle.ep_object.specs.Operands.{Operand, Word, Place, Text, Value, Set, word}
use Rattle.ep_object.specs.State.{TypeTable, size_limit}
use Rattle.ep_object.specs.Types.{Numbered, and_numbered, any_bare, any_start, bare_forms, entries_of, entry_of, lowest_first, parts_behind, rec_row, record_entry, record_of, starts_joined, words_behind}
use Rattle.ep_object.specs.declared.state.RecordPart.{RecordPart}
use Rattle.ep_object.specs.declared.state.TypeEntry.{TypeEntry}
use Rattle.ep_rows.specs.Parts.{typing}
use Rattle.ep_rows.specs.Records.{IsPutBack, bare_of_all, bare_parts_of_all, has_bare, has_start, one_passes, passes, pushed, start_of_all, starts_of_all, words_of_all}
use Rattle.ep_rows.specs.Steps.{IsDone}
use Rattle.ep_rows.proofs.Doing.{not_begun}
use Rattle.ep_rows.specs.declared.step.Step.{Step}
use Rattle.ep_rows.specs.declared.step.Step.TheVariants.{Next, Goto, Error, Broken, Full, NoMemory, Rare}

-- ---- words off the operands, for `take_words` and `put_back`

-- one more word is taken off
one_taken : (left : ℕ) (ws : List ℤ) (w : ℤ) (st rest : List Operand) → word st ≡ Some (w, rest)
    → lowest_first (suc left) (reverse ws) st ≡ lowest_first left (reverse (ws ++ w ∷ [])) rest
one_taken left ws w [] rest h = cc
one_taken left ws w (Word v ∷ st) rest h =
    let first : Some v ≡ Some w = ap (option_map (λ p. p.0)) h in
    let others : Some st ≡ Some rest = ap (option_map (λ p. p.1)) h in
    let turned : reverse (ws ++ w ∷ []) ≡ w ∷ reverse ws = reverse-append ws (w ∷ []) in
    let e : v ≡ w = cc in
    let r : st ≡ rest = cc in
    rw (turned, e, r) refl
one_taken left ws w (Place p ∷ st) rest h = cc
one_taken left ws w (Text bytes ∷ st) rest h = cc
one_taken left ws w (Value n words ∷ st) rest h = cc
one_taken left ws w (Set members ∷ st) rest h = cc

none_taken : (left : ℕ) (ws : List ℤ) (st : List Operand) → word st ≡ None → lowest_first (suc left) ws st ≡ None
none_taken left ws [] h = refl
none_taken left ws (Word v ∷ st) h = cc
none_taken left ws (Place p ∷ st) h = refl
none_taken left ws (Text bytes ∷ st) h = refl
none_taken left ws (Value n words ∷ st) h = refl
none_taken left ws (Set members ∷ st) h = refl

pub more_taken : (count i : ℕ) (ws : List ℤ) (w : ℤ) (st rest : List Operand) → i < count → word st ≡ Some (w, rest)
    → lowest_first (count - i) (reverse ws) st ≡ lowest_first (count - (i + 1)) (reverse (ws ++ w ∷ [])) rest
more_taken count i ws w st rest less h =
    let left : count - i ≡ suc (count - (i + 1)) = omega (arith, less) in
    rw left (one_taken (count - (i + 1)) ws w st rest h)

-- there is no word to take off
pub no_more : (count i : ℕ) (ws : List ℤ) (st : List Operand) → i < count → word st ≡ None → lowest_first (count - i) ws st ≡ None
no_more count i ws st less h =
    let left : count - i ≡ suc (count - (i + 1)) = omega (arith, less) in
    rw left (none_taken (count - (i + 1)) ws st h)

one_pushed : (ws : List ℤ) (w : ℤ) (st : List Operand) → pushed (ws ++ w ∷ []) st ≡ Word w ∷ pushed ws st
one_pushed [] w st = refl
one_pushed (v ∷ ws) w st = one_pushed ws w (Word v ∷ st)

-- one more word is put back
pub more_pushed : (ws : List ℤ) (i : ℕ) (d : ℤ) (st : List Operand) → i < length ws → pushed (take (i + 1) ws) st ≡ Word (get_or ws i d) ∷ pushed (take i ws) st
more_pushed ws i d st less = rw (add-one i, take-suc ws i d less) (one_pushed (take i ws) (get_or ws i d) st)

pushed_over : (n : ℕ) (taken ws : List ℤ) (st rest : List Operand) → lowest_first n taken st ≡ Some (ws, rest) → pushed ws rest ≡ pushed taken st
pushed_over zero taken ws st rest h =
    let first : Some taken ≡ Some ws = ap (option_map (λ p. p.0)) h in
    let others : Some st ≡ Some rest = ap (option_map (λ p. p.1)) h in
    let e : taken ≡ ws = cc in
    let r : st ≡ rest = cc in
    rw (e, r) refl
pushed_over (suc n) taken ws [] rest h = cc
pushed_over (suc n) taken ws (Word w ∷ st) rest h = pushed_over n (w ∷ taken) ws st rest h
pushed_over (suc n) taken ws (Place p ∷ st) rest h = cc
pushed_over (suc n) taken ws (Text bytes ∷ st) rest h = cc
pushed_over (suc n) taken ws (Value m words ∷ st) rest h = cc
pushed_over (suc n) taken ws (Set members ∷ st) rest h = cc

-- the words that were taken off give the operands again
taken_again : (n : ℕ) (ws : List ℤ) (st rest : List Operand) → lowest_first n [] st ≡ Some (ws, rest) → pushed ws rest ≡ st
taken_again n ws st rest h = pushed_over n [] ws st rest h

-- ---- components of all types, for `parts_of_all`

not_fewer : (ns : List Numbered) (before : ℕ) → before ≤ words_behind before ns
not_fewer [] before = omega arith
not_fewer (n ∷ ns) before =
    let more : before + n.entry.size ≤ words_behind (before + n.entry.size) ns = not_fewer ns (before + n.entry.size) in omega (arith, more)

-- those of one component more are no more than a variable may have, where those of all are not
pub next_fits : (types : TypeTable) (numbers : List ℤ) (i before : ℕ) (d : ℤ) (n : Numbered) → i < length numbers → MatchOption (words_of_all types numbers) ⊥ (λ words. words ≤ size_limit)
    → words_of_all types numbers ≡ option_map (words_behind before) (entries_of types (drop i numbers)) → entry_of types (get_or numbers i d) ≡ Some n → before + n.entry.size ≤ size_limit
next_fits types numbers i before d n less within same there =
    let all : MatchOption (option_map (words_behind before) (entries_of types (drop i numbers))) ⊥ (λ words. words ≤ size_limit) = subst (λ o. MatchOption o ⊥ (λ words. words ≤ size_limit)) same within in
    go (entries_of types (drop (suc i) numbers)) (rw (drop-cons numbers i d less, there) at all)
  where
    go : (o : Option (List Numbered)) → MatchOption (option_map (words_behind before) (and_numbered (Some n) o)) ⊥ (λ words. words ≤ size_limit) → before + n.entry.size ≤ size_limit
    go None h = absurd h
    go (Some ns) h = omega (arith, not_fewer ns (before + n.entry.size), h)

-- ---- what one of the types has, for `any_bare` and `any_start`

-- one of the words numbers a type that passes where one of the types passes
one_is : (p : TypeEntry → Bool) (one : List Numbered → Bool)
    → one [] ≡ false → ((n : Numbered) (ns : List Numbered) → one (n ∷ ns) ≡ (p n.entry || one ns))
    → (types : TypeTable) (zs : List ℤ) (ns : List Numbered) → entries_of types zs ≡ Some ns → one_passes p types zs ≡ one ns
one_is p one none more types [] ns h =
    let e : ◌≡◌ {A = List Numbered} [] ns = cc in
    sym none ∙ ap one e
one_is p one none more types (z ∷ zs) ns h = go (entry_of types z) (entries_of types zs) h (one_is p one none more types zs)
  where
    go : (o : Option Numbered) (os : Option (List Numbered)) → and_numbered o os ≡ Some ns
        → ((ms : List Numbered) → os ≡ Some ms → one_passes p types zs ≡ one ms) → (passes p o || one_passes p types zs) ≡ one ns
    go None os e rest = cc
    go (Some n) None e rest = cc
    go (Some n) (Some ms) e rest =
        let same : n ∷ ms ≡ ns = cc in
        ap (λ b. p n.entry || b) (rest ms refl) ∙ (sym (more n ms) ∙ ap one same)

bare_is : (types : TypeTable) (zs : List ℤ) (ns : List Numbered) → entries_of types zs ≡ Some ns → one_passes has_bare types zs ≡ any_bare ns
bare_is = one_is has_bare any_bare refl (λ n ns. refl)

start_is : (types : TypeTable) (zs : List ℤ) (ns : List Numbered) → entries_of types zs ≡ Some ns → one_passes has_start types zs ≡ any_start ns
start_is = one_is has_start any_start refl (λ n ns. refl)

-- ---- the record of all types, for `record_bare` and `record_start`

module _ (types : TypeTable) (zs : List ℤ) (within : MatchOption (words_of_all types zs) ⊥ (λ words. words ≤ size_limit)) where
  -- what holds where all words number types
  of_entries : (P : Type 0) → ((ns : List Numbered) → entries_of types zs ≡ Some ns → P) → P
  of_entries P f = go (entries_of types zs) refl within
    where
      go : (o : Option (List Numbered)) → entries_of types zs ≡ o → MatchOption (option_map (words_behind 0) o) ⊥ (λ words. words ≤ size_limit) → P
      go None e h = absurd h
      go (Some ns) e h = f ns e

  -- the record is its own bare form
  pub no_bare : (size : ℕ) → one_passes has_bare types zs ≡ false → bare_of_all types zs size ≡ Some None
  no_bare size none =
      of_entries (bare_of_all types zs size ≡ Some None) (λ ns e.
      let no : any_bare ns ≡ false = sym (bare_is types zs ns e) ∙ none in
      rw (e, no) refl)

  -- it has another one
  pub other_bare : (size : ℕ) (parts : List RecordPart) → one_passes has_bare types zs ≡ true → bare_parts_of_all types zs ≡ Some parts
      → bare_of_all types zs size ≡ Some (Some (record_entry parts size))
  other_bare size parts one all =
      of_entries (bare_of_all types zs size ≡ Some (Some (record_entry parts size))) (λ ns e.
      let yes : any_bare ns ≡ true = sym (bare_is types zs ns e) ∙ one in
      let same : Some (parts_behind 0 (bare_forms ns)) ≡ Some parts = rw e at all in
      let is : parts_behind 0 (bare_forms ns) ≡ parts = cc in
      rw (e, yes, is) refl)

  -- it begins undefined
  pub no_start : one_passes has_start types zs ≡ false → start_of_all types zs ≡ Some None
  no_start none =
      of_entries (start_of_all types zs ≡ Some None) (λ ns e.
      let no : any_start ns ≡ false = sym (start_is types zs ns e) ∙ none in
      rw (e, no) refl)

  -- it begins with other words
  pub other_start : (words : List ℤ) → one_passes has_start types zs ≡ true → starts_of_all types zs ≡ Some words
      → start_of_all types zs ≡ Some (Some words)
  other_start words one all =
      of_entries (start_of_all types zs ≡ Some (Some words)) (λ ns e.
      let yes : any_start ns ≡ true = sym (start_is types zs ns e) ∙ one in
      let same : Some (starts_joined ns) ≡ Some words = rw e at all in
      let is : starts_joined ns ≡ words = cc in
      rw (e, yes, is) refl)

-- ---- the row where the limit has no room, for `rec`

row_weight : (types : TypeTable) (m : Store) (n size : ℕ) (st rest : List Operand) (ws : List ℤ) → lowest_first n [] st ≡ Some (ws, rest) → words_of_all types ws ≡ Some size → (rec_row (pos n) (typing st types m)).weight ≡ n
row_weight types m n size st rest ws taken all = rw taken (go (entries_of types ws) all)
  where
    go : (o : Option (List Numbered)) → option_map (words_behind 0) o ≡ Some size → (having_weighed o (λ ns. weighing n (record_of ns rest (typing st types m)))).weight ≡ n
    go None h = cc
    go (Some ns) h = refl

-- the words are put back, and nothing is done
pub nothing_done : (limit ticks ticks2 : ℕ) (types : TypeTable) (m : Store) (n size : ℕ) (st rest st2 : List Operand) (ws : List ℤ) (r : Step) → lowest_first n [] st ≡ Some (ws, rest) → words_of_all types ws ≡ Some size
    → leb (ticks + suc n) limit ≡ false → ticks2 ≡ ticks → IsPutBack r ws rest st2 → IsDone limit (rec_row (pos n) (typing st types m)) r ticks ticks2 (typing st types m) (typing st2 types m)
nothing_done limit ticks ticks2 types m n size st rest st2 ws Full taken all full spent back =
    not_begun limit ticks ticks2 n (rec_row (pos n) (typing st types m)) (typing st types m) (typing st2 types m) (row_weight types m n size st rest ws taken all) full spent (ap (λ o. typing o types m) (back ∙ taken_again n ws st rest taken))
nothing_done limit ticks ticks2 types m n size st rest st2 ws NoMemory taken all full spent back = tt
nothing_done limit ticks ticks2 types m n size st rest st2 ws Next taken all full spent back = absurd back
nothing_done limit ticks ticks2 types m n size st rest st2 ws (Goto to) taken all full spent back = absurd back
nothing_done limit ticks ticks2 types m n size st rest st2 ws (Error k) taken all full spent back = absurd back
nothing_done limit ticks ticks2 types m n size st rest st2 ws Broken taken all full spent back = absurd back
nothing_done limit ticks ticks2 types m n size st rest st2 ws Rare taken all full spent back = absurd back
