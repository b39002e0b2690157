-- A type is met: it has a number in the table, or gets one, or there is no room. So is a type with its bare form before it.
use Rattle.std.proofs.Common.{length-append, leb, ltb, cond, ◌≡◌, ℕ, ◌+◌, ◌*◌, ◌≤◌, ◌⊎◌, inl, inr, Bool, true, false, IsTrue, List, [], ◌∷◌, ◌++◌, length, Option, Some, None, slice_get, refl, sym, ap, subst, ◌∙◌, arith}
use Rattle.std.specs.Prelude.{◌&&◌, is_some}
use Rattle.std.specs.List.{list_any}
use Rattle.ep_object.specs.Effects.{Effect, Continues, Fails}
use Rattle.ep_simulation.specs.Matching.{AreBare, AreEntries, Describes, HasSize, Injection, IsBare, IsKindOf, MatchesCounts, MatchesTypes}
use Rattle.ep_object.specs.Operands.{Operand}
use Rattle.ep_simulation.specs.Starts.{start_words, words_kept}
use Rattle.ep_object.specs.State.{Segments, TypeTable, bare_number, live_limit, plain, type_limit}
use Rattle.ep_object.specs.Types.{Typing, entry_number, interned, interned_over, numbered, numbering, numbering_as, with_entry, words_in, words_of_entry}
use Rattle.ep_object.specs.declared.state.TypeKind.{TypeKind}
use Rattle.ep_object.specs.declared.state.RecordPart.{RecordPart}
use Rattle.ep_object.specs.declared.state.TypeEntry.{TypeEntry}
use Rattle.ep_object.proofs.public.Grows.{is_prefix, prefix_then}
use Rattle.ep_simulation.proofs.matching.Counts.{met-held, met-typed, met_lost, met_new, met_types-le}
use Rattle.ep_simulation.proofs.matching.Described.{IsEntryOf, entry_bare, entry_sized, entry-longer, has_size-longer}
use Rattle.ep_object.proofs.public.Elements.{slice_get-pushed}
use Rattle.ep_simulation.proofs.public.matching.MoreMemory.{bare-longer, entry_as, kind-longer, slice_get-prefix}
use Rattle.ep_simulation.proofs.matching.TypeTables.{bare_not_known, bare_words, entry_found, kind_words, not_first, not_known, type_words, types-added, types-known}
use Rattle.ep_outside.specs.Known.{IsPrefix}
use Rattle.ep_meaning.specs.Steps.{Resources, held, met, words_of_type}
use Rattle.ep_values.specs.TypeValues.{same_type}
use Rattle.ep_meaning.specs.Steps as meaning
use Rattle.ep_values.specs.TypeValues as type
use Rattle.ep_values.specs.TypeValues.{ComponentTypes, TypeValue, are_started, is_started, parts_of, size_of, start_size}
use Rattle.ep_meaning.proofs.public.Bares.{neither}
use Rattle.std.proofs.lemmas.Option.{same_Some}
use Rattle.ep_values.specs.declared.run_error.TheConstants as run_error

-- ---- one type

-- what is left where a type has a number: nothing was added, or this type
abbrev pub IsAdded : TypeEntry → Typing → Typing → Type 0
IsAdded e t u = (u ≡ t) ⊎ ((entry_number e t.types ≡ None) × (u ≡ with_entry e t))

-- the type has a number with which what is done with one goes on
pub record HasNumber (elaborated : List TypeValue) (e : TypeEntry) (t : Typing) : Type 0 where
  pub number : ℕ
  pub left : Typing
  pub leads : (f : ℕ → Typing → Effect Typing) → numbering e f t ≡ f number left
  pub stands : slice_get left.types number ≡ Some e
  pub longer : IsPrefix t.types left.types
  pub matches : MatchesTypes elaborated left.types
  pub added : IsAdded e t left

-- or there is no room for it
pub record HasNoRoom (e : TypeEntry) (t : Typing) : Type 0 where
  pub leads : (f : ℕ → Typing → Effect Typing) → numbering e f t ≡ Fails run_error.STORAGE_LIMIT
  pub none : entry_number e t.types ≡ None
  pub full : (ltb (length t.types) type_limit && leb (t.live + words_of_entry e) live_limit) ≡ false

pub meets : (elaborated : List TypeValue) (e : TypeEntry) (t : Typing) → MatchesTypes elaborated t.types → HasSize t.types e.kind e.size
    → HasNumber elaborated e t ⊎ HasNoRoom e t
meets elaborated e t m sized = by_number (entry_number e t.types) refl
  where
    led : {o : Option ℕ} → entry_number e t.types ≡ o → (f : ℕ → Typing → Effect Typing) → numbering e f t ≡ numbering_as o e f t
    led found f = ap (λ o. numbering_as o e f t) found

    by_room : (b : Bool) → (ltb (length t.types) type_limit && leb (t.live + words_of_entry e) live_limit) ≡ b → entry_number e t.types ≡ None
        → HasNumber elaborated e t ⊎ HasNoRoom e t
    by_room true fits none =
        inl (record {
          number = length t.types;
          left = with_entry e t;
          leads = λ f. led none f ∙ ap (λ b. cond b (f (length t.types) (with_entry e t)) (Fails run_error.STORAGE_LIMIT)) fits;
          stands = slice_get-pushed t.types e;
          longer = record { rest = e ∷ []; is = refl };
          matches = types-added e m sized none;
          added = inr (none, refl);
        })
    by_room false full none = inr (record { leads = λ f. led none f ∙ ap (λ b. cond b (f (length t.types) (with_entry e t)) (Fails run_error.STORAGE_LIMIT)) full; none = none; full = full })

    by_number : (o : Option ℕ) → entry_number e t.types ≡ o → HasNumber elaborated e t ⊎ HasNoRoom e t
    by_number (Some n) found =
        inl (record { number = n; left = t; leads = λ f. led found f; stands = entry_found e n m sized found; longer = is_prefix t.types; matches = m; added = inl refl })
    by_number None none = by_room (ltb (length t.types) type_limit && leb (t.live + words_of_entry e) live_limit) refl none

-- ---- what is counted

-- the table and the live words where a type value was met: as before, or, where it is a new one, with at most two types and
-- twice its words more
abbrev pub IsCounted : TypeValue → Resources → Typing → Typing → Type 0
IsCounted u r t v =
    ((length v.types ≡ length t.types) × (v.live ≡ t.live))
    ⊎ ((IsTrue (list_any (same_type u) r.types) → ⊥) × (length v.types ≤ length t.types + 2) × (v.live ≤ t.live + 2 * words_of_type u))

pub counts_met : {injection : Injection} {segments : Segments} (u : TypeValue) (r : Resources) (t v : Typing) → MatchesCounts injection r segments t.types t.live
    → IsCounted u r t v → MatchesCounts injection (met u r) segments v.types v.live
counts_met u r t v c (inl same) =
    let held_same = met-held u r in
    record {
      words = omega (arith, c.words, same.1, met-typed u r, held_same.0);
      hidden = omega (arith, c.hidden, held_same.1);
      number = omega (arith, c.number, same.0, met_types-le u r);
    }
counts_met u r t v c (inr (new, few, words)) =
    let more = met_new u r new in
    let held_same = met-held u r in
    record {
      words = omega (arith, c.words, words, more.1, held_same.0);
      hidden = omega (arith, c.hidden, held_same.1);
      number = omega (arith, c.number, few, more.0);
    }

-- ---- a type value is met

-- how a type is made that describes a type value: the kind, and the bare form, where that is another one
pub record IsMadeOf (types : TypeTable) (u : TypeValue) (kind : TypeKind) (bare : Option ℕ) : Type 0 where
  pub is_kind : IsKindOf types u kind
  pub other : is_some bare ≡ is_started u
  pub form : (b : ℕ) → bare ≡ Some b → IsBare types b u

-- a type value with initial states is none of the first ones
started_not_first : (u : TypeValue) → is_started u ≡ true → IsTrue (list_any (same_type u) meaning.first_types) → ⊥
started_not_first (type.Ordinal low high) s h = cc
started_not_first type.Text s h = cc
started_not_first (type.Array low high of) s h = cc
started_not_first (type.Record ts) s h = cc
started_not_first (type.Set low high) s h = cc
started_not_first (type.Initial of start) s h = cc

-- a type that describes what has no initial states is its bare form
part_form : (types : TypeTable) (u : TypeValue) (n : ℕ) → is_started u ≡ false → Describes types n u → IsBare types n u
part_form types u n own d = by_bare d.bare (d.other ∙ own) d.form
  where
    by_bare : (x : Option ℕ) → is_some x ≡ false → IsBare types (bare_number n x) u → IsBare types n u
    by_bare None e f = f
    by_bare (Some b) e f = cc

-- and so are components
parts_form : (types : TypeTable) (before : ℕ) (ps : List RecordPart) (ts : ComponentTypes) → are_started ts ≡ false → AreEntries types before ps ts → AreBare types before ps ts
parts_form types before [] type.no_component own h = tt
parts_form types before [] (type.next_component t ts) own h = absurd h
parts_form types before (p ∷ ps) type.no_component own h = absurd h
parts_form types before (p ∷ ps) (type.next_component t ts) own h =
    let e = neither (is_started t) (are_started ts) own in
    (h.0, part_form types t p.type_number e.0 h.1, parts_form types (before + size_of t) ps ts e.1 h.2)

-- a plain entry of the kind of what has no initial states is its own bare form
own_form : (types : TypeTable) (u : TypeValue) (n : ℕ) (k : TypeKind) → is_started u ≡ false → IsKindOf types u k → slice_get types n ≡ Some (plain k (size_of u)) → IsBare types n u
own_form types (type.Ordinal low high) n k own is stands = stands ∙ ap (λ x. Some (plain x 1)) is
own_form types type.Text n k own is stands = stands ∙ ap (λ x. Some (plain x 1)) is
own_form types (type.Array low high of) n k own is stands =
    (is.0, stands ∙ ap (λ x. Some (plain x (size_of (type.Array low high of)))) is.1, part_form types of is.0 own is.2)
own_form types (type.Record ts) n k own is stands =
    (is.0, stands ∙ ap (λ x. Some (plain x (size_of (type.Record ts)))) is.1, parts_form types 0 is.0 ts own is.2)
own_form types (type.Set low high) n k own is stands = stands ∙ ap (λ x. Some (plain x (size_of (type.Set low high)))) is
own_form types (type.Initial of start) n k own is stands = cc

-- a type that is made so describes the type value
made_describes : (types longer : TypeTable) (u : TypeValue) (k : TypeKind) (bare : Option ℕ) (n : ℕ) → IsMadeOf types u k bare → IsPrefix types longer
    → slice_get longer n ≡ Some (entry_as u k bare) → Describes longer n u
made_describes types longer u k bare n made p stands = record { kind = k; bare = bare; stands = stands; is_kind = is_kind; form = by_bare bare made.other made.form stands; other = made.other }
  where
    is_kind : IsKindOf longer u k
    is_kind = kind-longer types longer u k p made.is_kind

    by_bare : (x : Option ℕ) → is_some x ≡ is_started u → ((b : ℕ) → x ≡ Some b → IsBare types b u) → slice_get longer n ≡ Some (entry_as u k x) → IsBare longer (bare_number n x) u
    by_bare (Some b) e f there = bare-longer types longer b u p (f b refl)
    by_bare None e f there =
        own_form longer u n k (sym e) is_kind (there ∙ ap (λ o. Some (record { kind = k; size = size_of u; start = o; bare = None })) (ap (λ b. cond b (Some (start_words u)) None) (sym e)))

-- the words of its entry
entry_words : (u : TypeValue) (k : TypeKind) (bare : Option ℕ) (types : TypeTable) → IsKindOf types u k → length (start_words u) ≡ size_of u → words_of_entry (entry_as u k bare) ≡ 1 + parts_of u + start_size u
entry_words u k bare types is long = (λ i. kind_words types u k is i + begun i)
  where
    begun : words_in (words_kept u) ≡ start_size u
    begun = go (is_started u)
      where
        go : (b : Bool) → words_in (cond b (Some (start_words u)) None) ≡ cond b (size_of u) 0
        go true = long
        go false = refl

-- what making a type comes to: its number on top, with the table in which it describes the type value, or no room
pub record Interns (u : TypeValue) (r : Resources) (below : List Operand) (t : Typing) (effect : Effect Typing) : Type 0 where
  pub number : ℕ
  pub left : Typing
  pub leads : effect ≡ Continues (numbered number below left)
  pub described : Describes left.types number u
  pub longer : IsPrefix t.types left.types
  pub matches : MatchesTypes (met u r).types left.types
  pub counted : IsCounted u r t left

pub record IsFull (u : TypeValue) (r : Resources) (effect : Effect Typing) : Type 0 where
  pub leads : effect ≡ Fails run_error.STORAGE_LIMIT
  pub lost : IsTrue (met u r).lost

module _ (u : TypeValue) (r : Resources) (below : List Operand) (k : TypeKind) (long : length (start_words u) ≡ size_of u) where
  -- one type
  pub interns_one : (bare : Option ℕ) (t : Typing) → MatchesTypes r.types t.types → IsMadeOf t.types u k bare
      → HasSize t.types k (size_of u) → length t.types ≤ 2 * length r.types + 5 → t.live ≤ held r + 4 * r.typed
      → Interns u r below t (interned (entry_as u k bare) below t) ⊎ IsFull u r (interned (entry_as u k bare) below t)
  interns_one bare t m made sized few live = elim (meets r.types (entry_as u k bare) t m sized) [ inl x ↦ inl (there x) | inr x ↦ inr (nowhere x) ]
    where
      words_are : entry_number (entry_as u k bare) t.types ≡ None → words_of_entry (entry_as u k bare) ≡ words_of_type u
      words_are none = entry_words u k bare t.types made.is_kind long ∙ sym (type_words u (not_first u k bare m made.is_kind made.other none))

      new : entry_number (entry_as u k bare) t.types ≡ None → IsTrue (list_any (same_type u) r.types) → ⊥
      new none = not_known u k bare m made.is_kind made.other made.form none

      counted : (v : Typing) → IsAdded (entry_as u k bare) t v → IsCounted u r t v
      counted v (inl same) = inl (ap (λ (x : Typing). length x.types) same, ap (λ (x : Typing). x.live) same)
      counted v (inr (none, same)) =
          let size : length v.types ≡ length (t.types ++ entry_as u k bare ∷ []) = ap (λ (x : Typing). length x.types) same in
          let live_is : v.live ≡ t.live + words_of_entry (entry_as u k bare) = ap (λ (x : Typing). x.live) same in
          inr (new none, omega (arith, size, length-append t.types (entry_as u k bare ∷ [])), omega (arith, live_is, words_are none))

      there : HasNumber r.types (entry_as u k bare) t → Interns u r below t (interned (entry_as u k bare) below t)
      there x =
          let d = made_describes t.types x.left.types u k bare x.number made x.longer x.stands in
          record {
            number = x.number;
            left = x.left;
            leads = x.leads (λ n v. Continues (numbered n below v));
            described = d;
            longer = x.longer;
            matches = types-known r u x.number x.matches d;
            counted = counted x.left x.added;
          }

      nowhere : HasNoRoom (entry_as u k bare) t → IsFull u r (interned (entry_as u k bare) below t)
      nowhere x =
          record {
            leads = x.leads (λ n v. Continues (numbered n below v));
            lost = met_lost (length t.types) t.live (words_of_entry (entry_as u k bare)) u r (new x.none) x.full (omega (arith, few)) (omega (arith, live, words_are x.none));
          }

  -- a type with its bare form before it
  module _ (started : is_started u ≡ true) (e : TypeEntry) (t : Typing) (m : MatchesTypes r.types t.types) (is_bare : IsEntryOf t.types u e) (is_kind : IsKindOf t.types u k)
      (sized : HasSize t.types k (size_of u)) (few : length t.types ≤ 2 * length r.types + 5) (live : t.live ≤ held r + 4 * r.typed) where
    abbrev whole : Option ℕ → TypeEntry
    whole bare = entry_as u k bare

    not_one_of_first : IsTrue (list_any (same_type u) meaning.first_types) → ⊥
    not_one_of_first = started_not_first u started

    words_of_new : words_of_type u ≡ 1 + parts_of u + start_size u
    words_of_new = type_words u not_one_of_first

    bare_is : words_of_entry e ≤ words_of_type u
    bare_is = omega (arith, bare_words t.types u e is_bare, words_of_new)

    -- the second step, after the first one
    module _ (x : HasNumber r.types e t) where
      made : IsMadeOf x.left.types u k (Some x.number)
      made =
          record {
            is_kind = kind-longer t.types x.left.types u k x.longer is_kind;
            other = sym started;
            form = λ b is. subst (λ n. IsBare x.left.types n u) (same_number b is) (entry_bare x.left.types x.number u e x.stands (entry-longer t.types x.left.types u e x.longer is_bare));
          }
        where
          same_number : (b : ℕ) → Some x.number ≡ Some b → x.number ≡ b
          same_number b is = same_Some x.number b is

      sized_later : HasSize x.left.types k (size_of u)
      sized_later = has_size-longer t.types x.left.types k (size_of u) (λ n f there. slice_get-prefix t.types x.left.types n f x.longer there) sized

      whole_is : words_of_entry (whole (Some x.number)) ≡ words_of_type u
      whole_is = entry_words u k (Some x.number) t.types is_kind long ∙ sym words_of_new

      -- what was added by both
      counted_two : (v : Typing) → IsAdded e t x.left → IsAdded (whole (Some x.number)) x.left v → IsCounted u r t v
      counted_two v (inl a) (inl b) =
          inl (ap (λ (y : Typing). length y.types) (b ∙ a), ap (λ (y : Typing). y.live) (b ∙ a))
      counted_two v (inl a) (inr (none, b)) =
          let many : length v.types ≡ length (x.left.types ++ whole (Some x.number) ∷ []) = ap (λ (y : Typing). length y.types) b in
          let words : v.live ≡ x.left.live + words_of_entry (whole (Some x.number)) = ap (λ (y : Typing). y.live) b in
          let before : length x.left.types ≡ length t.types = ap (λ (y : Typing). length y.types) a in
          let live_before : x.left.live ≡ t.live = ap (λ (y : Typing). y.live) a in
          inr (not_known u k (Some x.number) x.matches made.is_kind made.other made.form none, omega (arith, many, before, length-append x.left.types (whole (Some x.number) ∷ [])), omega (arith, words, live_before, whole_is))
      counted_two v (inr (none, a)) (inl b) =
          let before : length x.left.types ≡ length (t.types ++ e ∷ []) = ap (λ (y : Typing). length y.types) a in
          let live_before : x.left.live ≡ t.live + words_of_entry e = ap (λ (y : Typing). y.live) a in
          let many : length v.types ≡ length x.left.types = ap (λ (y : Typing). length y.types) b in
          let words : v.live ≡ x.left.live = ap (λ (y : Typing). y.live) b in
          inr (bare_not_known u e m is_bare none, omega (arith, many, before, length-append t.types (e ∷ [])), omega (arith, words, live_before, bare_is))
      counted_two v (inr (none, a)) (inr (none_more, b)) =
          let before : length x.left.types ≡ length (t.types ++ e ∷ []) = ap (λ (y : Typing). length y.types) a in
          let live_before : x.left.live ≡ t.live + words_of_entry e = ap (λ (y : Typing). y.live) a in
          let many : length v.types ≡ length (x.left.types ++ whole (Some x.number) ∷ []) = ap (λ (y : Typing). length y.types) b in
          let words : v.live ≡ x.left.live + words_of_entry (whole (Some x.number)) = ap (λ (y : Typing). y.live) b in
          inr (bare_not_known u e m is_bare none, omega (arith, many, before, length-append t.types (e ∷ []), length-append x.left.types (whole (Some x.number) ∷ [])), omega (arith, words, live_before, bare_is, whole_is))

      both_there : HasNumber r.types (whole (Some x.number)) x.left → Interns u r below t (interned_over (Some e) whole below t)
      both_there y =
          let d = made_describes x.left.types y.left.types u k (Some x.number) y.number made y.longer y.stands in
          record {
            number = y.number;
            left = y.left;
            leads = x.leads (λ n v. interned (whole (Some n)) below v) ∙ y.leads (λ n v. Continues (numbered n below v));
            described = d;
            longer = prefix_then x.longer y.longer;
            matches = types-known r u y.number y.matches d;
            counted = counted_two y.left x.added y.added;
          }

      -- a type value that gives up for want of room is a new one
      new_for : IsAdded e t x.left → entry_number (whole (Some x.number)) x.left.types ≡ None → IsTrue (list_any (same_type u) r.types) → ⊥
      new_for (inl a) none = not_known u k (Some x.number) x.matches made.is_kind made.other made.form none
      new_for (inr (before, a)) none = bare_not_known u e m is_bare before

      left_few : IsAdded e t x.left → (length x.left.types ≤ 2 * length r.types + 6) × (x.left.live ≤ held r + 4 * r.typed + words_of_type u)
      left_few (inl a) =
          let before : length x.left.types ≡ length t.types = ap (λ (y : Typing). length y.types) a in
          let live_before : x.left.live ≡ t.live = ap (λ (y : Typing). y.live) a in
          (omega (arith, few, before), omega (arith, live, live_before))
      left_few (inr (before_none, a)) =
          let before : length x.left.types ≡ length (t.types ++ e ∷ []) = ap (λ (y : Typing). length y.types) a in
          let live_before : x.left.live ≡ t.live + words_of_entry e = ap (λ (y : Typing). y.live) a in
          (omega (arith, few, before, length-append t.types (e ∷ [])), omega (arith, live, live_before, bare_is))

      second_nowhere : HasNoRoom (whole (Some x.number)) x.left → IsFull u r (interned_over (Some e) whole below t)
      second_nowhere y =
          let bounds = left_few x.added in
          record {
            leads = x.leads (λ n v. interned (whole (Some n)) below v) ∙ y.leads (λ n v. Continues (numbered n below v));
            lost = met_lost (length x.left.types) x.left.live (words_of_entry (whole (Some x.number))) u r (new_for x.added y.none) y.full bounds.0 (omega (arith, bounds.1, whole_is));
          }

      second : Interns u r below t (interned_over (Some e) whole below t) ⊎ IsFull u r (interned_over (Some e) whole below t)
      second = elim (meets r.types (whole (Some x.number)) x.left x.matches sized_later) [ inl y ↦ inl (both_there y) | inr y ↦ inr (second_nowhere y) ]

    first_nowhere : HasNoRoom e t → IsFull u r (interned_over (Some e) whole below t)
    first_nowhere y =
        record {
          leads = y.leads (λ n v. interned (whole (Some n)) below v);
          lost = met_lost (length t.types) t.live (words_of_entry e) u r (bare_not_known u e m is_bare y.none) y.full (omega (arith, few)) (omega (arith, live, bare_is));
        }

    pub interns_two : Interns u r below t (interned_over (Some e) whole below t) ⊎ IsFull u r (interned_over (Some e) whole below t)
    interns_two = elim (meets r.types e t m (entry_sized t.types u e is_bare)) [ inl x ↦ second x | inr y ↦ inr (first_nowhere y) ]
