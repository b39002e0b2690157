-- Tables of types: they go on matching where a type is met, whether it has a number already or gets a new one.
use Rattle.std.proofs.Common.{length-append, ◌≡◌, ℕ, ℤ, zero, suc, ◌+◌, ◌<◌, ◌⊎◌, inl, inr, Bool, true, false, IsTrue, List, [], ◌∷◌, ◌++◌, length, Option, Some, None, slice_get, refl, sym, ap, subst, ◌∙◌, arith, cond, get_or, position}
use Rattle.std.proofs.lemmas.Int.{ints}
use Rattle.ep_simulation.proofs.matching.Likes.{one_kind}
use Rattle.std.specs.Prelude.{nat_eq, nat_lt, ◌||◌, not, if◌then◌else◌, ◌&&◌, int_le, is_some}
use Rattle.std.specs.List.{list_any, position_or_len}
use Rattle.std.proofs.lemmas.Option.{slice_get-get_or}
use Rattle.std.proofs.lemmas.List.Quantifiers.{position-Some}
use Rattle.std.proofs.lemmas.Slice.Eq.{bytes_eq-Decides}
use Rattle.std.proofs.lemmas.Bool.Decides.{nat_tests}
use Rattle.ep_simulation.specs.Layouts.{Layout}
use Rattle.ep_simulation.specs.Matching.{MachineMemory, Injection, Describes, HasSize, MatchesSlot, MatchesTypes, IsRepresentedWhere, MatchesStore, MatchesUnits, MatchesCounts, Matches, Slots, Grown, AreBare, AreEntries, IsBare, IsKindOf}
use Rattle.ep_object.specs.Runs.{after}
use Rattle.ep_object.specs.State.{Segments, TypeTable, integer_entry, char_entry, boolean_entry, text_entry, pointer_entry, first_types, bare_number, plain}
use Rattle.ep_object.specs.Types.{same_kind, same_entry, entry_number, ordinal_entry, words_of_entry, words_of_kind}
use Rattle.ep_object.specs.TypeEntries.{Told, both, bounds_are, entry-refl, told, told_are}
use Rattle.ep_object.specs.declared.state.TypeKind.{TypeKind}
use Rattle.ep_object.specs.declared.state.TypeKind.TheVariants.{Ord}
use Rattle.ep_object.specs.declared.state.RecordPart.{RecordPart}
use Rattle.ep_object.specs.declared.state.TypeEntry.{TypeEntry}
use Rattle.ep_object.proofs.public.Grows.{prefix_then}
use Rattle.ep_simulation.proofs.matching.Described.{IsEntryOf, bare_entry, one_bare_number, one_entry, one_size, has_size-longer}
use Rattle.ep_simulation.proofs.public.matching.MoreMemory.{slice_get-prefix, described-longer, entry_as, grown_refl, like-longer}
use Rattle.ep_object.proofs.public.Elements.{slice_get-push}
use Rattle.ep_meaning.specs.Steps.{Resources, words_of_type, met, watched, sized}
use Rattle.ep_values.specs.TypeValues.{same_type}
use Rattle.ep_meaning.specs.Steps as meaning
use Rattle.ep_meaning.specs.Steps.{Component, Allocation}
use Rattle.ep_outside.specs.Known.{IsPrefix}
use Rattle.ep_object.specs.declared.code.Image.{Image}
use Rattle.ep_object.specs.declared.state.Place.{Place}
use Rattle.ep_values.specs.TypeValues.{ComponentTypes, TypeValue, components_of, same_bounds, same_types, size_of, Start, is_started, parts_of, same_start, same_starts, simple_start, set_start, start_size, Starts, next_start, no_start, parts_start, undefined_start}
use Rattle.ep_values.specs.TypeValues as type
use Rattle.std.proofs.lemmas.Option.{cond_some}

-- a number that was found is that of this type, whose size its kind gives
pub entry_found : {elaborated : List TypeValue} {types : TypeTable} (e : TypeEntry) (n : ℕ)
    → MatchesTypes elaborated types → HasSize types e.kind e.size → entry_number e types ≡ Some n → slice_get types n ≡ Some e
entry_found {types = types} e n m sized h =
    let p = position-Some (same_entry e) types n e h in
    let found : TypeEntry = get_or types n e in
    let at_n : slice_get types n ≡ Some found = slice_get-get_or types n e p.0 in
    let same : told e ≡ told found = told_are (told e) (told found) p.1 in
    let kind : e.kind ≡ found.kind = ap (λ (x : Told). x.kind) same in
    let start : e.start ≡ found.start = ap (λ (x : Told). x.start) same in
    let bare : e.bare ≡ found.bare = ap (λ (x : Told). x.bare) same in
    let size : e.size ≡ found.size = one_size types found.kind e.size found.size (subst (λ k. HasSize types k e.size) kind sized) (m.sized n found at_n) in
    at_n ∙ (λ i. Some (record { kind = sym kind i; size = sym size i; start = sym start i; bare = sym bare i }))

-- how far the first element is that passes, or the length
place_more : {A : Type 0} (p : A → Bool) (xs ys : List A) → position_or_len p xs < length xs
    → position_or_len p (xs ++ ys) ≡ position_or_len p xs
place_more p [] ys h = absurd (omega arith)
place_more p (x ∷ xs) ys h = step (p x) h (λ k. place_more p xs ys k)
  where
    step : (b : Bool) → (if not b then 1 + (position_or_len p xs) else 0) < suc (length xs)
        → (position_or_len p xs < length xs → position_or_len p (xs ++ ys) ≡ position_or_len p xs)
        → (if not b then 1 + (position_or_len p (xs ++ ys)) else 0) ≡ (if not b then 1 + (position_or_len p xs) else 0)
    step true k f = refl
    step false k f = ap (λ k. 1 + k) (f (omega arith))

place_new : {A : Type 0} (p : A → Bool) (xs : List A) (x : A) → IsTrue (p x)
    → position_or_len p (xs ++ x ∷ []) < length (xs ++ x ∷ [])
place_new p [] x h = step (p x) h
  where
    step : (b : Bool) → IsTrue b → (if not b then 1 else 0) < 1
    step true k = omega arith
    step false k = cc
place_new p (y ∷ xs) x h = step (p y) (place_new p xs x h)
  where
    step : (b : Bool) → position_or_len p (xs ++ x ∷ []) < length (xs ++ x ∷ [])
        → (if not b then 1 + (position_or_len p (xs ++ x ∷ [])) else 0) < suc (length (xs ++ x ∷ []))
    step true k = omega arith
    step false k = omega arith

position_of : {A : Type 0} (p : A → Bool) (xs : List A) → position_or_len p xs < length xs
    → position p xs ≡ Some (position_or_len p xs)
position_of p xs h = let less : nat_lt (position_or_len p xs) (length xs) ≡ true = grind (arith, nat_tests) in ap (λ b. cond b (Some (position_or_len p xs)) None) less

-- an element that passes is there, and so a position is found
place_at : {A : Type 0} (p : A → Bool) (xs : List A) (n : ℕ) (x : A) → slice_get xs n ≡ Some x → IsTrue (p x)
    → position_or_len p xs < length xs
place_at p [] n x h t = cc
place_at p (y ∷ ys) zero x h t = let e : x ≡ y = cc in step (p y) (subst (λ z. IsTrue (p z)) e t)
  where
    step : (b : Bool) → IsTrue b → (if not b then 1 + (position_or_len p ys) else 0) < suc (length ys)
    step true k = omega arith
    step false k = cc
place_at p (y ∷ ys) (suc n) x h t = step (p y) (place_at p ys n x h t)
  where
    step : (b : Bool) → position_or_len p ys < length ys
        → (if not b then 1 + (position_or_len p ys) else 0) < suc (length ys)
    step true k = omega arith
    step false k = omega arith

position_at : {A : Type 0} (p : A → Bool) (xs : List A) (n : ℕ) (x : A) → slice_get xs n ≡ Some x
    → IsTrue (p x) → position p xs ≡ None → ⊥
position_at p xs n x h t none =
    let e : ◌≡◌ {A = Option ℕ} None (Some (position_or_len p xs)) = sym none ∙ position_of p xs (place_at p xs n x h t) in cc

position_from-more : {A : Type 0} (p : A → Bool) (xs ys : List A) (n : ℕ) → position p xs ≡ Some n
    → position p (xs ++ ys) ≡ Some n
position_from-more p xs ys n h =
    let w = cond_some (nat_lt (position_or_len p xs) (length xs)) (position_or_len p xs) n h in
    let within : position_or_len p xs < length xs = let t = w.0 in grind (arith, nat_tests) in
    let same = place_more p xs ys within in
    position_of p (xs ++ ys) (omega (arith, same, length-append xs ys)) ∙ ap Some (same ∙ w.1)

position_from-new : {A : Type 0} (p : A → Bool) (xs : List A) (x : A) → IsTrue (p x)
    → (n : ℕ) × (position p (xs ++ x ∷ []) ≡ Some n)
position_from-new p xs x h = (position_or_len p (xs ++ x ∷ []), position_of p (xs ++ x ∷ []) (place_new p xs x h))

-- one of two tests
either : (a b : Bool) → IsTrue (a || b) → IsTrue a ⊎ IsTrue b
either true b t = inl refl
either false b t = inr t

-- what is among the types that are counted after one is met
met_among : (u t : TypeValue) (r : Resources) → IsTrue (list_any (same_type t) (met u r).types)
    → IsTrue (same_type t u) ⊎ IsTrue (list_any (same_type t) r.types)
met_among u t r = go (list_any (same_type u) r.types)
  where
    go : (b : Bool)
        → IsTrue (list_any (same_type t) (sized u (watched (if b then r else record r { types = u ∷ r.types; typed = r.typed + words_of_type u }))).types)
        → IsTrue (same_type t u) ⊎ IsTrue (list_any (same_type t) r.types)
    go true h = inr h
    go false h = either (same_type t u) (list_any (same_type t) r.types) h

mutual
  -- initial states that are told to be the same are
  starts_are : (s u : Start) → IsTrue (same_start s u) → s ≡ u
  starts_are (undefined_start m) (undefined_start n) same = ap undefined_start (same_number m n same)
    where
      same_number : (x y : ℕ) → IsTrue (nat_eq x y) → x ≡ y
      same_number x y t = grind (arith, nat_tests)
  starts_are (undefined_start m) (simple_start z) same = cc
  starts_are (undefined_start m) (set_start ns) same = cc
  starts_are (undefined_start m) (parts_start us) same = cc
  starts_are (simple_start w) (undefined_start n) same = cc
  starts_are (simple_start w) (simple_start z) same = ap simple_start (same_word w z same)
    where
      same_word : (x y : ℤ) → IsTrue (int_le x y && int_le y x) → x ≡ y
      same_word x y t = let p = both (int_le x y) (int_le y x) t in omega (arith, ints, p.0, p.1)
  starts_are (simple_start w) (set_start ns) same = cc
  starts_are (simple_start w) (parts_start us) same = cc
  starts_are (set_start ms) (undefined_start n) same = cc
  starts_are (set_start ms) (simple_start z) same = cc
  starts_are (set_start ms) (set_start ns) same = (let d = bytes_eq-Decides ms ns in ap set_start (d.0 same))
  starts_are (set_start ms) (parts_start us) same = cc
  starts_are (parts_start ss) (undefined_start n) same = cc
  starts_are (parts_start ss) (simple_start z) same = cc
  starts_are (parts_start ss) (set_start ns) same = cc
  starts_are (parts_start ss) (parts_start us) same = ap parts_start (all_starts_are ss us same)

  -- and so are those of components
  all_starts_are : (ss us : Starts) → IsTrue (same_starts ss us) → ss ≡ us
  all_starts_are no_start no_start same = refl
  all_starts_are no_start (next_start u us) same = cc
  all_starts_are (next_start s ss) no_start same = cc
  all_starts_are (next_start s ss) (next_start u us) same =
      let p = both (same_start s u) (same_starts ss us) same in
      let first = starts_are s u p.0 in
      let rest = all_starts_are ss us p.1 in
      λ i. next_start (first i) (rest i)

mutual
  -- type values that are told to be the same are
  types_are : (t u : TypeValue) → IsTrue (same_type t u) → t ≡ u
  types_are (type.Ordinal l h) (type.Ordinal m k) same = let e = bounds_are m k l h same in λ i. type.Ordinal (e.0 i) (e.1 i)
  types_are (type.Ordinal l h) type.Text same = cc
  types_are (type.Ordinal l h) (type.Array m k of) same = cc
  types_are (type.Ordinal l h) (type.Record us) same = cc
  types_are (type.Ordinal l h) (type.Set m k) same = cc
  types_are type.Text (type.Ordinal m k) same = cc
  types_are type.Text type.Text same = refl
  types_are type.Text (type.Array m k of) same = cc
  types_are type.Text (type.Record us) same = cc
  types_are type.Text (type.Set m k) same = cc
  types_are (type.Array l h of) (type.Ordinal m k) same = cc
  types_are (type.Array l h of) type.Text same = cc
  types_are (type.Array l h of) (type.Array m k other) same =
      let p = both (same_bounds l h m k) (same_type of other) same in
      let e = bounds_are m k l h p.0 in
      let c = types_are of other p.1 in
      λ i. type.Array (e.0 i) (e.1 i) (c i)
  types_are (type.Array l h of) (type.Record us) same = cc
  types_are (type.Array l h of) (type.Set m k) same = cc
  types_are (type.Record ts) (type.Ordinal m k) same = cc
  types_are (type.Record ts) type.Text same = cc
  types_are (type.Record ts) (type.Array m k of) same = cc
  types_are (type.Record ts) (type.Record us) same = ap type.Record (components_are ts us same)
  types_are (type.Record ts) (type.Set m k) same = cc
  types_are (type.Set l h) (type.Ordinal m k) same = cc
  types_are (type.Set l h) type.Text same = cc
  types_are (type.Set l h) (type.Array m k of) same = cc
  types_are (type.Set l h) (type.Record us) same = cc
  types_are (type.Set l h) (type.Set m k) same = let e = bounds_are m k l h same in λ i. type.Set (e.0 i) (e.1 i)
  types_are (type.Ordinal l h) (type.Initial other another) same = cc
  types_are type.Text (type.Initial other another) same = cc
  types_are (type.Array l h of) (type.Initial other another) same = cc
  types_are (type.Record ts) (type.Initial other another) same = cc
  types_are (type.Set l h) (type.Initial other another) same = cc
  types_are (type.Initial of start) (type.Ordinal m k) same = cc
  types_are (type.Initial of start) type.Text same = cc
  types_are (type.Initial of start) (type.Array m k other) same = cc
  types_are (type.Initial of start) (type.Record us) same = cc
  types_are (type.Initial of start) (type.Set m k) same = cc
  types_are (type.Initial of start) (type.Initial other another) same =
      let p = both (same_type of other) (same_start start another) same in
      let own = types_are of other p.0 in
      let begin = starts_are start another p.1 in
      λ i. type.Initial (own i) (begin i)

  components_are : (ts us : ComponentTypes) → IsTrue (same_types ts us) → ts ≡ us
  components_are type.no_component type.no_component same = refl
  components_are type.no_component (type.next_component u us) same = cc
  components_are (type.next_component t ts) type.no_component same = cc
  components_are (type.next_component t ts) (type.next_component u us) same =
      let p = both (same_type t u) (same_types ts us) same in
      let first = types_are t u p.0 in
      let rest = components_are ts us p.1 in
      λ i. type.next_component (first i) (rest i)

-- one more type value was elaborated, which a type describes
pub types-known : (r : Resources) {types : TypeTable} (u : TypeValue) (n : ℕ) → MatchesTypes r.types types
    → Describes types n u → MatchesTypes (met u r).types types
types-known r {types = types} u n m is =
    record {
      first = m.first;
      sized = m.sized;
      shared = m.shared;
      known = λ t h. known t (met_among u t r h);
    }
  where
    known : (t : TypeValue) → IsTrue (same_type t u) ⊎ IsTrue (list_any (same_type t) r.types)
        → (k : ℕ) × Describes types k t
    known t (inl same) = (n, subst (λ x. Describes types n x) (sym (types_are t u same)) is)
    known t (inr h) = m.known t h

-- a type that has no number does not stand in the table
pub not_there : (types : TypeTable) (e : TypeEntry) (n : ℕ) → entry_number e types ≡ None
    → slice_get types n ≡ Some e → ⊥
not_there types e n none h = position_at (same_entry e) types n e h (entry-refl e) none

-- a type gets a new number
pub types-added : {elaborated : List TypeValue} {types : TypeTable} (new : TypeEntry) → MatchesTypes elaborated types
    → HasSize types new.kind new.size → entry_number new types ≡ None → MatchesTypes elaborated (types ++ new ∷ [])
types-added {types = types} new m sized none =
    record {
      first = prefix_then m.first longer;
      sized = λ n e at_n. sized_in n e (slice_get-push types new e n at_n);
      shared = λ j k e at_j at_k. shared j k e (slice_get-push types new e j at_j) (slice_get-push types new e k at_k);
      known = λ t h. let k = m.known t h in (k.0, described-longer types (types ++ new ∷ []) k.0 t longer k.1);
    }
  where
    longer : IsPrefix types (types ++ new ∷ [])
    longer = record { rest = new ∷ []; is = refl }

    keeps : (n : ℕ) (e : TypeEntry) → slice_get types n ≡ Some e → slice_get (types ++ new ∷ []) n ≡ Some e
    keeps n e h = slice_get-prefix types (types ++ new ∷ []) n e longer h

    sized_in : (n : ℕ) (e : TypeEntry) → (slice_get types n ≡ Some e) ⊎ ((n ≡ length types) × (e ≡ new))
        → HasSize (types ++ new ∷ []) e.kind e.size
    sized_in n e (inl h) = has_size-longer types (types ++ new ∷ []) e.kind e.size keeps (m.sized n e h)
    sized_in n e (inr h) =
        subst (λ (x : TypeEntry). HasSize (types ++ new ∷ []) x.kind x.size) (sym h.1)
        (has_size-longer types (types ++ new ∷ []) new.kind new.size keeps sized)

    shared : (j k : ℕ) (e : TypeEntry)
        → (slice_get types j ≡ Some e) ⊎ ((j ≡ length types) × (e ≡ new))
        → (slice_get types k ≡ Some e) ⊎ ((k ≡ length types) × (e ≡ new)) → j ≡ k
    shared j k e (inl a) (inl b) = m.shared j k e a b
    shared j k e (inr a) (inr b) = a.0 ∙ sym b.0
    shared j k e (inl a) (inr b) = absurd (not_there types new j none (a ∙ ap Some b.1))
    shared j k e (inr a) (inl b) = absurd (not_there types new k none (b ∙ ap Some a.1))

-- a type that is one of the first ones is numbered
among_first : (k : TypeEntry) (before : TypeTable) (e : TypeEntry) (after : TypeTable) → IsTrue (same_entry k e)
    → (n : ℕ) × (entry_number k ((before ++ e ∷ []) ++ after) ≡ Some n)
among_first k before e after t =
    let is_this = same_entry k in
    let n = position_from-new is_this before e t in (n.0, position_from-more is_this (before ++ e ∷ []) after n.0 n.1)

-- types without initial states are the same where their kinds are
plainly : {b : Bool} → IsTrue b → IsTrue (b && (true && true))
plainly {b = true} t = refl
plainly {b = false} t = cc

-- a first type has a number
first_known : (low high : ℤ) (rest : TypeTable)
    → IsTrue (list_any (same_type (type.Ordinal low high)) meaning.first_types)
    → (n : ℕ) × (entry_number (ordinal_entry low high) (first_types ++ rest) ≡ Some n)
first_known low high rest h =
    elim (either (is_this integer_entry) (is_this char_entry || (is_this boolean_entry || (false || false))) h) [
      | inl t ↦ among_first (ordinal_entry low high) [] integer_entry (char_entry ∷ boolean_entry ∷ text_entry ∷ pointer_entry ∷ rest) (plainly t)
      | inr others ↦
          elim (either (is_this char_entry) (is_this boolean_entry || (false || false)) others) [
            | inl t ↦ among_first (ordinal_entry low high) (integer_entry ∷ []) char_entry (boolean_entry ∷ text_entry ∷ pointer_entry ∷ rest) (plainly t)
            | inr others ↦
                elim (either (is_this boolean_entry) (false || false) others) [
                  | inl t ↦ among_first (ordinal_entry low high) (integer_entry ∷ char_entry ∷ []) boolean_entry (text_entry ∷ pointer_entry ∷ rest) (plainly t)
                  | inr t ↦ absurd cc
                ]
          ]
    ]
  where
    is_this : TypeEntry → Bool
    is_this e = same_kind (Ord low high) e.kind

-- as many components as types
entries_counted : (types : TypeTable) (before : ℕ) (ps : List RecordPart) (ts : ComponentTypes) → AreEntries types before ps ts → components_of ts ≡ length ps
entries_counted types before [] type.no_component h = refl
entries_counted types before [] (type.next_component t ts) h = absurd h
entries_counted types before (p ∷ ps) type.no_component h = absurd h
entries_counted types before (p ∷ ps) (type.next_component t ts) h = ap suc (entries_counted types (before + size_of t) ps ts h.2)

bare_counted : (types : TypeTable) (before : ℕ) (ps : List RecordPart) (ts : ComponentTypes) → AreBare types before ps ts → components_of ts ≡ length ps
bare_counted types before [] type.no_component h = refl
bare_counted types before [] (type.next_component t ts) h = absurd h
bare_counted types before (p ∷ ps) type.no_component h = absurd h
bare_counted types before (p ∷ ps) (type.next_component t ts) h = ap suc (bare_counted types (before + size_of t) ps ts h.2)

-- the words of a type's kind, and those of its bare form
pub kind_words : (types : TypeTable) (t : TypeValue) (k : TypeKind) → IsKindOf types t k → words_of_kind k ≡ 1 + parts_of t
kind_words types (type.Ordinal low high) k h = ap words_of_kind h
kind_words types type.Text k h = ap words_of_kind h
kind_words types (type.Array low high of) k h = ap words_of_kind h.1
kind_words types (type.Record ts) k h = ap words_of_kind h.1 ∙ omega (arith, entries_counted types 0 h.0 ts h.2)
kind_words types (type.Set low high) k h = ap words_of_kind h
kind_words types (type.Initial of start) k h = kind_words types of k h

pub bare_words : (types : TypeTable) (t : TypeValue) (e : TypeEntry) → IsEntryOf types t e → words_of_entry e ≡ 1 + parts_of t
bare_words types (type.Ordinal low high) e h = ap words_of_entry h
bare_words types type.Text e h = ap words_of_entry h
bare_words types (type.Array low high of) e h = ap words_of_entry h.1
bare_words types (type.Record ts) e h = ap words_of_entry h.1 ∙ omega (arith, bare_counted types 0 h.0 ts h.2)
bare_words types (type.Set low high) e h = ap words_of_entry h
bare_words types (type.Initial of start) e h = bare_words types of e h

-- the words of a type value that is none of the first ones
pub type_words : (t : TypeValue) → (IsTrue (list_any (same_type t) meaning.first_types) → ⊥) → words_of_type t ≡ 1 + parts_of t + start_size t
type_words t other = go (list_any (same_type t) meaning.first_types) other
  where
    go : (b : Bool) → (IsTrue b → ⊥) → (if b then 0 else 1 + parts_of t + start_size t) ≡ 1 + parts_of t + start_size t
    go true f = absurd (f refl)
    go false f = refl

nothing_found : {n : ℕ} → ◌≡◌ {A = Option ℕ} None (Some n) → ⊥
nothing_found e = cc

-- one whose entry has no number is none of them
pub not_first : {elaborated : List TypeValue} {types : TypeTable} (t : TypeValue) (k : TypeKind) (bare : Option ℕ) → MatchesTypes elaborated types
    → IsKindOf types t k → is_some bare ≡ is_started t → entry_number (entry_as t k bare) types ≡ None
    → IsTrue (list_any (same_type t) meaning.first_types) → ⊥
not_first {types = types} (type.Ordinal low high) k None m is other none t =
    let prefix = m.first in
    let x = first_known low high prefix.rest t in
    let same : entry_number (ordinal_entry low high) types ≡ None = ap (λ k. entry_number (plain k 1) types) (sym is) ∙ none in
    nothing_found (sym same ∙ (ap (entry_number (ordinal_entry low high)) prefix.is ∙ x.1))
not_first (type.Ordinal low high) k (Some b) m is other none t = cc
not_first {types = types} type.Text k None m is other none t =
    let prefix = m.first in
    let x = among_first text_entry (integer_entry ∷ char_entry ∷ boolean_entry ∷ []) text_entry (pointer_entry ∷ prefix.rest) refl in
    let same : entry_number text_entry types ≡ None = ap (λ k. entry_number (plain k 1) types) (sym is) ∙ none in
    nothing_found (sym same ∙ (ap (entry_number text_entry) prefix.is ∙ x.1))
not_first type.Text k (Some b) m is other none t = cc
not_first (type.Array low high of) k bare m is other none t = cc
not_first (type.Record ts) k bare m is other none t = cc
not_first (type.Set low high) k bare m is other none t = cc
not_first (type.Initial of start) k bare m is other none t = cc

-- and its type value was never elaborated
pub not_known : {elaborated : List TypeValue} {types : TypeTable} (t : TypeValue) (k : TypeKind) (bare : Option ℕ) → MatchesTypes elaborated types
    → IsKindOf types t k → is_some bare ≡ is_started t → ((b : ℕ) → bare ≡ Some b → IsBare types b t) → entry_number (entry_as t k bare) types ≡ None
    → IsTrue (list_any (same_type t) elaborated) → ⊥
not_known {types = types} t k bare m is other form none known =
    let x = m.known t known in
    let d : Describes types x.0 t = x.1 in
    let kinds : d.kind ≡ k = one_kind types t d.kind k m d.is_kind is in
    let bares : d.bare ≡ bare = same_bares d.bare bare (d.other ∙ sym other) (form_of d) form in
    not_there types (entry_as t k bare) x.0 none (d.stands ∙ (λ i. Some (entry_as t (kinds i) (bares i))))
  where
    form_of : {n : ℕ} (d : Describes types n t) → (b : ℕ) → d.bare ≡ Some b → IsBare types b t
    form_of {n = n} d b e = subst (λ x. IsBare types (bare_number n x) t) e d.form

    same_bares : (x y : Option ℕ) → is_some x ≡ is_some y → ((b : ℕ) → x ≡ Some b → IsBare types b t) → ((b : ℕ) → y ≡ Some b → IsBare types b t) → x ≡ y
    same_bares None None same p q = refl
    same_bares None (Some c) same p q = cc
    same_bares (Some b) None same p q = cc
    same_bares (Some b) (Some c) same p q = ap Some (one_bare_number types t b c m (p b refl) (q c refl))

-- what has a bare form of its own in the table was never elaborated either, where the bare form is not there
pub bare_not_known : {elaborated : List TypeValue} {types : TypeTable} (t : TypeValue) (e : TypeEntry) → MatchesTypes elaborated types
    → IsEntryOf types t e → entry_number e types ≡ None → IsTrue (list_any (same_type t) elaborated) → ⊥
bare_not_known {types = types} t e m is none known =
    let x = m.known t known in
    let d : Describes types x.0 t = x.1 in
    let b = bare_entry types (bare_number x.0 d.bare) t d.form in
    not_there types e (bare_number x.0 d.bare) none (b.1 ∙ ap Some (one_entry types t b.0 e m b.2 is))

-- the store goes on matching with a longer table of types
pub matches_store-types : {injection : Injection} {allocations : List Allocation} {segments : Segments} {types longer : TypeTable}
    → IsPrefix types longer → MatchesStore injection allocations segments types
    → MatchesStore injection allocations segments longer
matches_store-types {injection = injection} {segments = segments} {types = types} {longer = longer} prefix m =
    record {
      represented = λ n segment allocation is_in at_n. go segment allocation allocation.ended (m.represented n segment allocation is_in at_n);
    }
  where
    go : (segment : ℕ) (a : Allocation) (b : Bool) → IsRepresentedWhere b injection segments types segment a
        → IsRepresentedWhere b injection segments longer segment a
    go segment a true stands = stands
    go segment a false r = record { type_number = r.type_number; words = r.words; stands = r.stands; described = described-longer types longer r.type_number a.type_value prefix r.described; sized = r.sized; holds = r.holds }

-- and so does a slot
slot-types : (injection : Injection) {types longer : TypeTable} → IsPrefix types longer → (o : Option Component) (slot : Option Place)
    → MatchesSlot injection types o slot → MatchesSlot injection longer o slot
slot-types injection prefix None None h = tt
slot-types injection prefix None (Some p) h = h
slot-types injection prefix (Some c) None h = h
slot-types injection {types = types} {longer = longer} prefix (Some c) (Some p) h =
    record { is_in = h.is_in; root = h.root; is_of = h.is_of; type_value = h.type_value; leads = h.leads; described = like-longer types longer p.type_number h.type_value prefix h.described }

-- and the units
pub matches_units-types : {layout : Layout} {G : Image} {injection : Injection} {allocations : List Allocation} {variables : List ℕ → ℕ → Option Component} {units : List (List (Option Place))} {types longer : TypeTable}
    → IsPrefix types longer → MatchesUnits layout G injection allocations variables units types
    → MatchesUnits layout G injection allocations variables units longer
matches_units-types {injection = injection} {variables = variables} {types = types} {longer = longer} prefix m =
    record {
      frames = λ unit u there.
          let f = m.frames unit u there in
          record {
            slots = f.slots;
            is = f.is;
            count = f.count;
            matches = λ k v slot is_declared at_k. slot-types injection prefix (variables u.name k) slot (f.matches k v slot is_declared at_k);
            described = λ k v place t is_declared at_k has_type. like-longer types longer place.type_number t prefix (f.described k v place t is_declared at_k has_type);
          };
      typed = m.typed;
    }

-- Matching with another table of types, where no number changes its type.
pub matches-types : {layout : Layout} {G : Image} {injection : Injection} {s : meaning.State} {memory : MachineMemory} (resources : Resources) (types : TypeTable) (live : ℕ)
    → IsPrefix memory.types types → MatchesTypes resources.types types
    → MatchesCounts injection resources memory.segments types live
    → Matches layout G injection s memory
    → Matches layout G injection (record s { resources = resources }) (record memory { types = types; live = live })
matches-types resources types live longer known counts m =
    record { injected = m.injected; store = matches_store-types longer m.store; types = known; units = matches_units-types longer m.units; outside = m.outside; counts = counts; depth = m.depth }

-- grown by a longer table alone
pub grown-types : {untouched : Slots} (injection : Injection) (memory : MachineMemory) (types : TypeTable) (live : ℕ)
    → IsPrefix memory.types types
    → Grown untouched injection memory injection (record memory { types = types; live = live })
grown-types {untouched = untouched} injection memory types live longer =
    let g = grown_refl {untouched = untouched} injection memory in
    record { larger = g.larger; types = longer; segments = g.segments; hidden = g.hidden; others = g.others; allocated = g.allocated; slots = g.slots; typed = g.typed; ended = g.ended }
