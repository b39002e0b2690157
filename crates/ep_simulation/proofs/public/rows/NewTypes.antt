-- A type is elaborated: the machine goes on matching, or ends for want of room where it was lost.
use Rattle.std.proofs.Common.{append-nil, leb, ◌≡◌, ℕ, ℤ, pos, suc, ◌+◌, ◌⊎◌, inl, inr, Bool, true, false, IsTrue, List, [], ◌∷◌, ◌++◌, length, map, Option, Some, None, slice_get, refl, sym, ap, subst, ◌∙◌, arith, cond, ◌*◌, ◌≤◌}
use Rattle.ep_object.specs.declared.state.RecordPart.{RecordPart}
use Rattle.ep_values.specs.Bounds.{count_of}
use Rattle.ep_simulation.specs.Starts.{AreStarts, AreStartsOfEach, IsStartOf, start_words, start_words_of_each, words_kept, words_of_start}
use Rattle.ep_simulation.proofs.matching.Likes.{like_ordinal}
use Rattle.ep_simulation.proofs.matching.Starting.{begun_words, starts_length}
use Rattle.ep_simulation.proofs.rows.Meeting.{Interns, IsFull, counts_met, interns_one, interns_two}
use Rattle.std.specs.Prelude.{int_le, ⊤, is_some, option_map, ◌||◌}
use Rattle.std.proofs.lemmas.Bool.{lt-ltb}
use Rattle.std.proofs.lemmas.Bool.Decides.{nat_tests}
use Rattle.std.proofs.lemmas.Option.{slice_get_within, same_Some}
use Rattle.ep_simulation.specs.Layouts.{Layout}
use Rattle.ep_simulation.specs.Matching.{MachineMemory, at, Injection, AreBare, AreEntries, Describes, MatchesCounts, Matches, Slots, own_slot, Grown, HasSize, IsBare, IsKindOf, IsLike, HaveSize}
use Rattle.ep_simulation.specs.Follows.{GivesUp, SameRoutine, Facts, Lasts, Inside, TypeOnTop}
use Rattle.ep_object.specs.Operands.{Operand, Word, weight}
use Rattle.ep_object.specs.Runs.{TurnOutcome, outcome, outcome_of, after}
use Rattle.ep_object.specs.State.{State, TypeTable, Running, size_limit, Segments, bare_number}
use Rattle.ep_object.specs.Types.{Numbered, Typing, and_numbered, any_bare, any_start, array_met, array_over, bare_forms, entries_of, interned_over, lowest_first, parts_behind, record_entry, record_met, record_of, record_over, record_start, repeated, starts_joined, words_behind, interned, ordinal_entry, array_entry, array_of, bounds_of, entry_in, entry_of, numbered_entry, set_entry, set_of, initial_as, words_begin, words_for}
use Rattle.ep_values.specs.Sets.{is_ordinal}
use Rattle.ep_object.specs.Table.{typing, with_typing}
use Rattle.ep_object.specs.Effects.{Effect, Work, mapped, having, having_weighed, weighing, Fails, Continues}
use Rattle.ep_object.specs.declared.code.Instr.{Instr}
use Rattle.ep_object.specs.declared.state.TypeKind.TheVariants as kind
use Rattle.ep_object.specs.declared.state.TypeEntry.{TypeEntry}
use Rattle.ep_object.proofs.public.Grows.{is_prefix}
use Rattle.ep_simulation.proofs.public.following.Bind.{gives_up}
use Rattle.ep_simulation.proofs.public.matching.MoreMemory.{entry_as, same_routine-refl}
use Rattle.ep_meaning.specs.Steps.{Resources, held, met, with_type}
use Rattle.ep_meaning.specs.Steps as meaning
use Rattle.ep_object.specs.declared.code.Image.{Image}
use Rattle.ep_values.specs.TypeValues.{ComponentTypes, TypeValue, bare_of, size_of, sizes_of, is_started, Start, are_started}
use Rattle.ep_values.specs.TypeValues as type
use Rattle.ep_object.specs.declared.op.TheConstants as op
use Rattle.ep_values.specs.declared.run_error.TheConstants as run_error
use Rattle.ep_simulation.proofs.public.following.Fragments.{Does}
use Rattle.ep_simulation.proofs.public.rows.Rows.{instr}
use Rattle.ep_simulation.proofs.matching.TypeTables.{matches-types, grown-types}
use Rattle.ep_simulation.proofs.matching.Counts.{met_large, live_bounded}

-- what a row on types leads to: the type's number on top, and the state that has met the type
pub record Elaborates (untouched : Slots) (layout : Layout) (G : Image) (injection : Injection)
    (memory : MachineMemory) (weight place : ℕ) (below : List Operand) (t : TypeValue) (k : State)
    (s : meaning.State) : Type 0 where
  pub number : ℕ
  pub final : MachineMemory
  pub does : outcome G k ≡ record { weight = weight; to = Running 0 (at (place + 1) (Word (pos number) ∷ below) final s.trace) }
  pub matches : Matches layout G injection (meaning.with_type t s) final
  pub described : Describes final.types number t
  pub grown : Grown untouched injection memory injection final
  pub routine : SameRoutine untouched memory.frames final.frames
  pub own : (k : ℕ) → own_slot final.frames k ≡ own_slot memory.frames k

-- an instruction whose effect this is, which makes a type or has no room for it
elaborates : {untouched : Slots} {layout : Layout} {G : Image} {injection : Injection} {memory : MachineMemory} (weight place : ℕ) (i : Instr) (operands below : List Operand) (t : TypeValue) (effect : Effect Typing) (s : meaning.State)
    → outcome G (at place operands memory s.trace) ≡ record { weight = weight; to = after G i (at place operands memory s.trace) (mapped (with_typing (at place operands memory s.trace)) effect) }
    → Matches layout G injection s memory
    → Interns t s.resources below (typing (at place operands memory s.trace)) effect ⊎ IsFull t s.resources effect
    → Elaborates untouched layout G injection memory weight place below t (at place operands memory s.trace) s ⊎ GivesUp G (at place operands memory s.trace) 0 (suc weight) (meaning.with_type t s)
elaborates {layout = layout} {G} {injection} {memory} weight place i operands below t effect s leads m (inl x) =
    inl (record {
      number = x.number;
      final = record memory { types = x.left.types; live = x.left.live };
      does = leads ∙ ap (λ e. record { weight = weight; to = after G i (at place operands memory s.trace) (mapped (with_typing (at place operands memory s.trace)) e) }) x.leads;
      matches = matches-types (met t s.resources) x.left.types x.left.live x.longer x.matches (counts_met t s.resources (typing (at place operands memory s.trace)) x.left m.counts x.counted) m;
      described = x.described;
      grown = grown-types injection memory x.left.types x.left.live x.longer;
      routine = same_routine-refl memory.frames;
      own = λ k. refl;
    })
elaborates {G = G} {memory = memory} weight place i operands below t effect s leads m (inr x) =
    inr (gives_up (leads ∙ ap (λ e. record { weight = weight; to = after G i (at place operands memory s.trace) (mapped (with_typing (at place operands memory s.trace)) e) }) x.leads) (inl refl) (is_prefix s.trace) x.lost)

-- what is bounded where counts match
module _ {injection : Injection} {r : Resources} {segments : Segments} {types : TypeTable} {live : ℕ} (c : MatchesCounts injection r segments types live) where
  few : length types ≤ 2 * length r.types + 5
  few = c.number

  bounded : live ≤ held r + 4 * r.typed
  bounded = live_bounded c

-- what an instruction of a weight does that makes the type, or ends for want of storage
abbrev pub MakesBy : ℕ → Slots → Layout → Image → Facts → ℕ → List Operand → List Operand → TypeValue → Injection → MachineMemory → meaning.State → Type 0
MakesBy weight untouched layout G Here place operands below t injection memory s =
    Does layout G Here (at place operands memory s.trace) weight (place + 1) (Inside untouched injection memory (TypeOnTop (bare_of t) below t)) (with_type t s)
    ⊎ GivesUp G (at place operands memory s.trace) 0 (suc weight) (with_type t s)

-- one without weight
abbrev pub Makes : Slots → Layout → Image → Facts → ℕ → List Operand → List Operand → TypeValue → Injection → MachineMemory → meaning.State → Type 0
Makes = MakesBy 0

elaborated : {untouched : Slots} {Here : Facts} {layout : Layout} {G : Image} {weight place : ℕ} {operands below : List Operand} {t : TypeValue}
    → AreStarts t → Lasts untouched Here → (injection : Injection) (memory : MachineMemory) (s : meaning.State) → Here injection s memory
    → Elaborates untouched layout G injection memory weight place below t (at place operands memory s.trace) s ⊎ GivesUp G (at place operands memory s.trace) 0 (suc weight) (with_type t s)
    → MakesBy weight untouched layout G Here place operands below t injection memory s
elaborated {below = below} {t = t} starts lasts injection memory s known (inl x) =
    inl (record {
      injection = injection;
      memory = x.final;
      operands = Word (pos x.number) ∷ below;
      does = x.does;
      matches = x.matches;
      here = lasts.by injection injection s (with_type t s) memory x.final (record { grown = x.grown; routine = x.routine; own = x.own; calls = refl }) known;
      post = record { grown = x.grown; routine = x.routine; operands_are = record { type_is = refl; number = x.number; is = refl; described = x.described; starts = starts } };
    })
elaborated starts lasts injection memory s known (inr x) = inr x

-- `TOrd`, over its bounds
pub ord_does : {untouched : Slots} {Here : Facts} (layout : Layout) (G : Image) (place line : ℕ) (below : List Operand) (low high : ℤ)
    → IsTrue (int_le low high) → slice_get G.instructions place ≡ Some (instr op.T_ORD (pos 0) 0 line)
    → Lasts untouched Here → (injection : Injection) (memory : MachineMemory) (s : meaning.State)
    → Matches layout G injection s memory → Here injection s memory
    → Makes untouched layout G Here place (Word high ∷ Word low ∷ below) below (type.Ordinal low high) injection memory s
ord_does layout G place line below low high ordered has lasts injection memory s matches known =
    let i = instr op.T_ORD (pos 0) 0 line in
    let k = at place (Word high ∷ Word low ∷ below) memory s.trace in
    let e = ordinal_entry low high in
    elaborated tt lasts injection memory s known
    (elaborates 0 place i (Word high ∷ Word low ∷ below) below (type.Ordinal low high) (interned e below (typing k)) s
    (ap (λ x. outcome_of G x k) has ∙ ap (λ b. record { weight = 0; to = after G i k (mapped (with_typing k) (cond b (interned e below (typing k)) (Fails run_error.OUTSIDE_DOMAIN))) }) ordered) matches
    (interns_one (type.Ordinal low high) s.resources below (kind.Ord low high) refl None (typing k) matches.types (record { is_kind = refl; other = refl; form = λ b e. cc }) refl (few matches.counts) (bounded matches.counts)))

-- the number of a type that is in the table
pub numbered_there : (types : TypeTable) (n : ℕ) (e : TypeEntry) → slice_get types n ≡ Some e
    → entry_of types (pos n) ≡ Some (record { number = n; entry = e })
numbered_there types n e there =
    ap (λ b. entry_in types (cond b (Some n) None)) (lt-ltb n (length types) (slice_get_within types n e there)) ∙ ap (numbered_entry n) there

-- what an array begins with
array_begins : (low high : ℤ) (of : TypeValue) → option_map (repeated (count_of low high)) (words_kept of) ≡ words_kept (type.Array low high of)
array_begins low high of = go (is_started of)
  where
    go : (b : Bool) → option_map (repeated (count_of low high)) (cond b (Some (start_words of)) None) ≡ cond b (Some (repeated (count_of low high) (start_words of))) None
    go true = refl
    go false = refl

-- `TArr`, over the numbers of its index type, whatever that begins with, and the type of its components
pub arr_does : {untouched : Slots} {Here : Facts} (layout : Layout) (G : Image) (place line : ℕ) (below : List Operand) (low high : ℤ) (of : TypeValue) (index component : ℕ)
    → slice_get G.instructions place ≡ Some (instr op.T_ARR (pos 0) 0 line)
    → Lasts untouched Here → (injection : Injection) (memory : MachineMemory) (s : meaning.State)
    → IsLike memory.types index (type.Ordinal low high) → Describes memory.types component of → AreStarts of
    → Matches layout G injection s memory → Here injection s memory
    → Makes untouched layout G Here place (Word (pos component) ∷ Word (pos index) ∷ below) below (type.Array low high of) injection memory s
arr_does {untouched = untouched} {Here = Here} layout G place line below low high of index component has lasts injection memory s index_is component_is starts matches known =
    go (leb (size_of (type.Array low high of)) size_limit) refl
  where
    i : Instr
    i = instr op.T_ARR (pos 0) 0 line

    operands : List Operand
    operands = Word (pos component) ∷ Word (pos index) ∷ below

    k : State
    k = at place operands memory s.trace

    size : ℕ
    size = size_of (type.Array low high of)

    c : Numbered
    c = record { number = component; entry = entry_as of component_is.kind component_is.bare }

    -- what it makes
    makes : Effect Typing
    makes = array_met low high size c below (typing k)

    -- what it leads to, by whether a variable may have so many words
    leads : (b : Bool) → leb size size_limit ≡ b
        → outcome G k ≡ record { weight = 0; to = after G i k (mapped (with_typing k) (cond b makes (Fails run_error.STORAGE_LIMIT))) }
    leads b fits =
        let o = like_ordinal memory.types index low high index_is in
        ap (λ x. outcome_of G x k) has
        ∙ ap (λ x. row_to x (entry_of memory.types (pos component))) (numbered_there memory.types index (record { kind = kind.Ord low high; size = 1; start = o.0; bare = o.1 }) o.2)
        ∙ ap (λ x. row_to (Some (record { number = index; entry = record { kind = kind.Ord low high; size = 1; start = o.0; bare = o.1 } })) x) (numbered_there memory.types component c.entry component_is.stands)
        ∙ ap (λ x. record { weight = 0; to = after G i k (mapped (with_typing k) (cond x makes (Fails run_error.STORAGE_LIMIT))) }) fits
      where
        row_to : Option Numbered → Option Numbered → TurnOutcome
        row_to x y = record { weight = 0; to = after G i k (mapped (with_typing k) (having x (λ n. having (bounds_of n.entry.kind) (λ b. having y (λ c. array_of b.0 b.1 c below (typing k)))))) }

    begins : array_over low high component size (words_kept of) ≡ entry_as (type.Array low high of) (kind.Array low high component)
    begins = λ i bare. record { kind = kind.Array low high component; size = size; start = array_begins low high of i; bare = bare }

    sized : HasSize memory.types (kind.Array low high component) size
    sized = (c.entry, component_is.stands, refl)

    is_kind : IsKindOf memory.types (type.Array low high of) (kind.Array low high component)
    is_kind = (component, refl, component_is)

    -- the type, by the bare form of that of its components
    met_by : (bare : Option ℕ) → is_some bare ≡ is_started of → IsBare memory.types (bare_number component bare) of
        → Interns (type.Array low high of) s.resources below (typing k) (interned_over (option_map (λ b. array_entry low high b size) bare) (array_over low high component size (words_kept of)) below (typing k))
        ⊎ IsFull (type.Array low high of) s.resources (interned_over (option_map (λ b. array_entry low high b size) bare) (array_over low high component size (words_kept of)) below (typing k))
    met_by None other form =
        subst (λ whole. Interns (type.Array low high of) s.resources below (typing k) (interned (whole None) below (typing k)) ⊎ IsFull (type.Array low high of) s.resources (interned (whole None) below (typing k))) (sym begins)
        (interns_one (type.Array low high of) s.resources below (kind.Array low high component) (starts_length (type.Array low high of) starts) None (typing k) matches.types (record { is_kind = is_kind; other = other; form = λ b e. cc }) sized (few matches.counts) (bounded matches.counts))
    met_by (Some b) other form =
        subst (λ whole. Interns (type.Array low high of) s.resources below (typing k) (interned_over (Some (array_entry low high b size)) whole below (typing k)) ⊎ IsFull (type.Array low high of) s.resources (interned_over (Some (array_entry low high b size)) whole below (typing k))) (sym begins)
        (interns_two (type.Array low high of) s.resources below (kind.Array low high component) (starts_length (type.Array low high of) starts) (sym other) (array_entry low high b size) (typing k) matches.types (b, refl, form) is_kind sized (few matches.counts) (bounded matches.counts))

    go : (b : Bool) → leb size size_limit ≡ b
        → Makes untouched layout G Here place operands below (type.Array low high of) injection memory s
    go true fits = elaborated starts lasts injection memory s known (elaborates 0 place i operands below (type.Array low high of) makes s (leads true fits) matches (met_by component_is.bare component_is.other component_is.form))
    go false large = inr (gives_up (leads false large) (inl refl) (is_prefix s.trace) (met_large (type.Array low high of) s.resources (grind (arith, nat_tests))))

-- ---- sets

-- `TSet`, over the number of its base type
pub set_does : {untouched : Slots} {Here : Facts} (layout : Layout) (G : Image) (place line : ℕ) (below : List Operand) (low high : ℤ) (base : ℕ)
    → IsTrue (is_ordinal low) → IsTrue (is_ordinal high)
    → slice_get G.instructions place ≡ Some (instr op.T_SET (pos 0) 0 line)
    → Lasts untouched Here → (injection : Injection) (memory : MachineMemory) (s : meaning.State)
    → IsLike memory.types base (type.Ordinal low high)
    → Matches layout G injection s memory → Here injection s memory
    → Makes untouched layout G Here place (Word (pos base) ∷ below) below (type.Set low high) injection memory s
set_does layout G place line below low high base from to has lasts injection memory s base_is matches known =
    elaborated tt lasts injection memory s known
    (elaborates 0 place i (Word (pos base) ∷ below) below (type.Set low high) (interned (set_entry low high) below (typing k)) s leads matches
    (interns_one (type.Set low high) s.resources below (kind.Set low high) (starts_length (type.Set low high) tt) None (typing k) matches.types (record { is_kind = refl; other = refl; form = λ b e. cc }) refl (few matches.counts) (bounded matches.counts)))
  where
    i : Instr
    i = instr op.T_SET (pos 0) 0 line

    k : State
    k = at place (Word (pos base) ∷ below) memory s.trace

    row_to : Option Numbered → TurnOutcome
    row_to x = record { weight = 0; to = after G i k (mapped (with_typing k) (having x (λ n. having (bounds_of n.entry.kind) (λ b. set_of b below (typing k))))) }

    leads : outcome G k ≡ record { weight = 0; to = after G i k (mapped (with_typing k) (interned (set_entry low high) below (typing k))) }
    leads =
        let o = like_ordinal memory.types base low high base_is in
        ap (λ x. outcome_of G x k) has
        ∙ (ap row_to (numbered_there memory.types base (record { kind = kind.Ord low high; size = 1; start = o.0; bare = o.1 }) o.2)
        ∙ rw (from, to) refl)

-- ---- records

-- numbers of types on top, of which the first one is the lowest
abbrev pub stacked : List ℕ → List Operand → List Operand
stacked [] below = below
stacked (n ∷ ns) below = stacked ns (Word (pos n) ∷ below)

-- the types of these numbers describe those of components, one for one
abbrev pub AreDescribed : TypeTable → List ℕ → ComponentTypes → Type 0
AreDescribed types [] type.no_component = ⊤
AreDescribed types [] (type.next_component t ts) = ⊥
AreDescribed types (n ∷ ns) type.no_component = ⊥
AreDescribed types (n ∷ ns) (type.next_component t ts) = Describes types n t × AreDescribed types ns ts

-- so many words are taken from the top
popped_more : (ns : List ℕ) (m : ℕ) (ws : List ℤ) (below : List Operand) → lowest_first (length ns + m) ws (stacked ns below) ≡ lowest_first m (map pos ns ++ ws) below
popped_more [] m ws below = let same : 0 + m ≡ m = omega arith in ap (λ k. lowest_first k ws below) same
popped_more (n ∷ ns) m ws below =
    let same : suc (length ns) + m ≡ length ns + suc m = omega arith in
    ap (λ k. lowest_first k ws (stacked ns (Word (pos n) ∷ below))) same ∙ popped_more ns (suc m) ws (Word (pos n) ∷ below)

popped : (ns : List ℕ) (below : List Operand) → lowest_first (length ns) [] (stacked ns below) ≡ Some (map pos ns, below)
popped ns below =
    let same : length ns ≡ length ns + 0 = omega arith in
    ap (λ k. lowest_first k [] (stacked ns below)) same ∙ (popped_more ns 0 [] below ∙ ap (λ zs. Some (zs, below)) (append-nil (map pos ns)))

-- the entries of these types, behind so many words
record Entered (types : TypeTable) (before : ℕ) (ns : List ℕ) (ts : ComponentTypes) : Type 0 where
  entries : List Numbered
  are : entries_of types (map pos ns) ≡ Some entries
  described : AreEntries types before (parts_behind before entries) ts
  forms : AreBare types before (parts_behind before (bare_forms entries)) ts
  sized : HaveSize types before (parts_behind before entries) (before + sizes_of ts)
  words : words_behind before entries ≡ before + sizes_of ts
  any_other : any_bare entries ≡ are_started ts
  any_kept : any_start entries ≡ are_started ts
  begin : starts_joined entries ≡ start_words_of_each ts

entered : (types : TypeTable) (before : ℕ) (ns : List ℕ) (ts : ComponentTypes) → AreDescribed types ns ts → Entered types before ns ts
entered types before [] type.no_component h =
    record { entries = []; are = refl; described = tt; forms = tt; sized = omega arith; words = omega arith; any_other = refl; any_kept = refl; begin = refl }
entered types before [] (type.next_component t ts) h = absurd h
entered types before (n ∷ ns) type.no_component h = absurd h
entered types before (n ∷ ns) (type.next_component t ts) h =
    let d = h.0 in
    let e : TypeEntry = entry_as t d.kind d.bare in
    let rest = entered types (before + size_of t) ns ts h.1 in
    let total : before + size_of t + sizes_of ts ≡ before + (size_of t + sizes_of ts) = omega arith in
    record {
      entries = record { number = n; entry = e } ∷ rest.entries;
      are = ap (λ o. and_numbered o (entries_of types (map pos ns))) (numbered_there types n e d.stands) ∙ ap (and_numbered (Some (record { number = n; entry = e }))) rest.are;
      described = (refl, d, rest.described);
      forms = (refl, d.form, rest.forms);
      sized = (refl, e, d.stands, subst (HaveSize types (before + size_of t) (parts_behind (before + size_of t) rest.entries)) total rest.sized);
      words = omega (arith, rest.words);
      any_other = (let first = d.other in let others = rest.any_other in λ i. first i || others i);
      any_kept = (let first = kept_some t in let others = rest.any_kept in λ i. first i || others i);
      begin = (let first = begun_words t in let others = rest.begin in λ i. first i ++ others i);
    }
  where
    kept_some : (t : TypeValue) → is_some (words_kept t) ≡ is_started t
    kept_some t = go (is_started t)
      where
        go : (b : Bool) → is_some (cond b (Some (start_words t)) None) ≡ b
        go true = refl
        go false = refl

-- `TRec`, over the numbers of the types of its components
pub rec_does : {untouched : Slots} {Here : Facts} (layout : Layout) (G : Image) (place line : ℕ) (below : List Operand) (ns : List ℕ) (ts : ComponentTypes)
    → slice_get G.instructions place ≡ Some (instr op.T_REC (pos (length ns)) 0 line)
    → Lasts untouched Here → (injection : Injection) (memory : MachineMemory) (s : meaning.State)
    → AreDescribed memory.types ns ts → AreStartsOfEach ts → Matches layout G injection s memory → Here injection s memory
    → MakesBy (length ns) untouched layout G Here place (stacked ns below) below (type.Record ts) injection memory s
rec_does {untouched = untouched} {Here = Here} layout G place line below ns ts has lasts injection memory s described starts matches known =
    go (leb (size_of (type.Record ts)) size_limit) refl
  where
    i : Instr
    i = instr op.T_REC (pos (length ns)) 0 line

    k : State
    k = at place (stacked ns below) memory s.trace

    x : Entered memory.types 0 ns ts
    x = entered memory.types 0 ns ts described

    size : ℕ
    size = size_of (type.Record ts)

    words : words_behind 0 x.entries ≡ size
    words = omega (arith, x.words)

    -- what it makes
    makes : Effect Typing
    makes = record_met x.entries size below (typing k)

    -- what it leads to, by whether a variable may have so many words
    leads : (b : Bool) → leb size size_limit ≡ b
        → outcome G k ≡ record { weight = length ns; to = after G i k (mapped (with_typing k) (cond b makes (Fails run_error.STORAGE_LIMIT))) }
    leads b fits =
        ap (λ y. outcome_of G y k) has
        ∙ ap (λ o. row_to o) (popped ns below)
        ∙ ap (λ o. entries_to o) x.are
        ∙ ap (λ n. sized_to n) words
        ∙ ap (λ y. record { weight = length ns; to = after G i k (mapped (with_typing k) (cond y makes (Fails run_error.STORAGE_LIMIT))) }) fits
      where
        led : Work Typing → TurnOutcome
        led w = record { weight = w.weight; to = after G i k (mapped (with_typing k) w.effect) }

        sized_to : ℕ → TurnOutcome
        sized_to n = led (weighing (length ns) (cond (leb n size_limit) (record_met x.entries n below (typing k)) (Fails run_error.STORAGE_LIMIT)))

        entries_to : Option (List Numbered) → TurnOutcome
        entries_to o = led (having_weighed o (λ es. weighing (length ns) (record_of es below (typing k))))

        row_to : Option (List ℤ × List Operand) → TurnOutcome
        row_to o = led (having_weighed o (λ p. having_weighed (entries_of memory.types p.0) (λ es. weighing (length ns) (record_of es p.1 (typing k)))))

    parts : List RecordPart
    parts = parts_behind 0 x.entries

    begins : record_over parts size (record_start x.entries) ≡ entry_as (type.Record ts) (kind.Record parts)
    begins = (let any = x.any_kept in let all = x.begin in λ j bare. record { kind = kind.Record parts; size = size; start = cond (any j) (Some (all j)) None; bare = bare })

    sized : HasSize memory.types (kind.Record parts) size
    sized = let total : 0 + sizes_of ts ≡ sizes_of ts = omega arith in subst (HaveSize memory.types 0 parts) total x.sized

    is_kind : IsKindOf memory.types (type.Record ts) (kind.Record parts)
    is_kind = (parts, refl, x.described)

    Made : Option TypeEntry → Type 0
    Made bare =
        Interns (type.Record ts) s.resources below (typing k) (interned_over bare (entry_as (type.Record ts) (kind.Record parts)) below (typing k))
        ⊎ IsFull (type.Record ts) s.resources (interned_over bare (entry_as (type.Record ts) (kind.Record parts)) below (typing k))

    -- the type, by whether one of the components has another bare form
    met_by : (b : Bool) → are_started ts ≡ b → Made (cond b (Some (record_entry (parts_behind 0 (bare_forms x.entries)) size)) None)
    met_by false own =
        interns_one (type.Record ts) s.resources below (kind.Record parts) (starts_length (type.Record ts) starts) None (typing k) matches.types (record { is_kind = is_kind; other = sym own; form = λ b e. cc }) sized (few matches.counts) (bounded matches.counts)
    met_by true started =
        interns_two (type.Record ts) s.resources below (kind.Record parts) (starts_length (type.Record ts) starts) started (record_entry (parts_behind 0 (bare_forms x.entries)) size) (typing k) matches.types (parts_behind 0 (bare_forms x.entries), refl, x.forms) is_kind sized (few matches.counts) (bounded matches.counts)

    is_met : Interns (type.Record ts) s.resources below (typing k) makes ⊎ IsFull (type.Record ts) s.resources makes
    is_met =
        subst (λ whole. Interns (type.Record ts) s.resources below (typing k) (interned_over bare whole below (typing k)) ⊎ IsFull (type.Record ts) s.resources (interned_over bare whole below (typing k))) (sym begins)
        (subst (λ b. Made (cond b (Some (record_entry (parts_behind 0 (bare_forms x.entries)) size)) None)) (sym x.any_other) (met_by (are_started ts) refl))
      where
        bare : Option TypeEntry
        bare = cond (any_bare x.entries) (Some (record_entry (parts_behind 0 (bare_forms x.entries)) size)) None

    go : (b : Bool) → leb size size_limit ≡ b
        → MakesBy (length ns) untouched layout G Here place (stacked ns below) below (type.Record ts) injection memory s
    go true fits = elaborated starts lasts injection memory s known (elaborates (length ns) place i (stacked ns below) below (type.Record ts) makes s (leads true fits) matches is_met)
    go false large = inr (gives_up (leads false large) (inl refl) (is_prefix s.trace) (met_large (type.Record ts) s.resources (grind (arith, nat_tests))))

-- ---- initial states

-- `TInit`, over the number of a type and a value whose words a variable of it may begin with
pub init_does : {untouched : Slots} {Here : Facts} (layout : Layout) (G : Image) (place line : ℕ) (below : List Operand) (of : TypeValue) (start : Start) (number : ℕ) (x : Operand)
    → slice_get G.instructions place ≡ Some (instr op.T_INIT (pos 0) 0 line)
    → Lasts untouched Here → (injection : Injection) (memory : MachineMemory) (s : meaning.State)
    → (d : Describes memory.types number of) → AreStarts of → IsStartOf of start → words_for d.kind (bare_number number d.bare) x ≡ Continues (words_of_start start)
    → Matches layout G injection s memory → Here injection s memory
    → MakesBy (weight x + size_of of) untouched layout G Here place (x ∷ Word (pos number) ∷ below) below (type.Initial of start) injection memory s
init_does {untouched = untouched} {Here = Here} layout G place line below of start number x has lasts injection memory s d starts fits takes matches known =
    elaborated (fits, starts) lasts injection memory s known
    (elaborates (weight x + size_of of) place i (x ∷ Word (pos number) ∷ below) below (type.Initial of start) makes s leads matches
    (interns_one (type.Initial of start) s.resources below d.kind (starts_length (type.Initial of start) (fits, starts)) (Some (bare_number number d.bare)) (typing k) matches.types
    (record { is_kind = d.is_kind; other = refl; form = λ b e. subst (λ n. IsBare memory.types n of) (same_Some (bare_number number d.bare) b e) d.form }) (matches.types.sized number (entry_as of d.kind d.bare) d.stands) (few matches.counts) (bounded matches.counts)))
  where
    i : Instr
    i = instr op.T_INIT (pos 0) 0 line

    k : State
    k = at place (x ∷ Word (pos number) ∷ below) memory s.trace

    e : TypeEntry
    e = entry_as of d.kind d.bare

    makes : Effect Typing
    makes = interned (entry_as (type.Initial of start) d.kind (Some (bare_number number d.bare))) below (typing k)

    led : Work Typing → TurnOutcome
    led w = record { weight = w.weight; to = after G i k (mapped (with_typing k) w.effect) }

    leads : outcome G k ≡ led (weighing (weight x + size_of of) makes)
    leads =
        ap (λ y. outcome_of G y k) has
        ∙ (ap entry_to (numbered_there memory.types number e d.stands)
        ∙ ap words_to takes)
      where
        entry_to : Option Numbered → TurnOutcome
        entry_to o = led (having_weighed o (λ n. initial_as n (weight x) (words_begin n x) below (typing k)))

        words_to : Effect (List ℤ) → TurnOutcome
        words_to w = led (initial_as (record { number = number; entry = e }) (weight x) w below (typing k))
