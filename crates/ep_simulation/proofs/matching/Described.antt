-- Which entry of a table of types is the bare form of a type value.
use Rattle.std.proofs.Common.{◌≡◌, ℕ, ℤ, ◌+◌, ◌*◌, false, List, [], ◌∷◌, Some, slice_get, refl, sym, ap, ◌∙◌, subst, arith}
use Rattle.std.proofs.lemmas.Option.{same_Some}
use Rattle.ep_simulation.specs.Matching.{AreBare, IsBare, HasSize, HaveSize, MatchesTypes}
use Rattle.ep_object.specs.State.{TypeTable, text_entry}
use Rattle.ep_object.specs.Types.{ordinal_entry, array_entry, record_entry, set_entry}
use Rattle.ep_object.specs.declared.state.TypeKind.{TypeKind}
use Rattle.ep_object.specs.declared.state.TypeKind.TheVariants as kind
use Rattle.ep_object.specs.declared.state.RecordPart.{RecordPart}
use Rattle.ep_object.specs.declared.state.TypeEntry.{TypeEntry}
use Rattle.ep_simulation.proofs.public.matching.MoreMemory.{bare-longer, each_bare-longer}
use Rattle.ep_outside.specs.Known.{IsPrefix}
use Rattle.ep_values.specs.Bounds.{count_of}
use Rattle.ep_values.specs.TypeValues as type
use Rattle.ep_values.specs.TypeValues.{ComponentTypes, TypeValue, are_started, bare_each, bare_of, is_started, size_of, sizes_of}
use Rattle.ep_meaning.proofs.public.Bares.{bare_size, bare_sizes, bare_unstarted, neither}

-- the entry is that of the bare form of the type value, in a table that has those of its components
abbrev pub IsEntryOf : TypeTable → TypeValue → TypeEntry → Type 0
IsEntryOf types (type.Ordinal low high) e = e ≡ ordinal_entry low high
IsEntryOf types type.Text e = e ≡ text_entry
IsEntryOf types (type.Array low high of) e =
    (c : ℕ) × (e ≡ array_entry low high c (size_of (type.Array low high of))) × IsBare types c of
IsEntryOf types (type.Record ts) e =
    (ps : List RecordPart) × (e ≡ record_entry ps (size_of (type.Record ts))) × AreBare types 0 ps ts
IsEntryOf types (type.Set low high) e = e ≡ set_entry low high
IsEntryOf types (type.Initial of start) e = IsEntryOf types of e

-- what is the bare form of a type value is its entry
pub bare_entry : (types : TypeTable) (n : ℕ) (t : TypeValue) → IsBare types n t
    → (e : TypeEntry) × (slice_get types n ≡ Some e) × IsEntryOf types t e
bare_entry types n (type.Ordinal low high) h = (ordinal_entry low high, h, refl)
bare_entry types n type.Text h = (text_entry, h, refl)
bare_entry types n (type.Array low high of) h =
    (array_entry low high h.0 (size_of (type.Array low high of)), h.1, (h.0, refl, h.2))
bare_entry types n (type.Record ts) h = (record_entry h.0 (size_of (type.Record ts)), h.1, (h.0, refl, h.2))
bare_entry types n (type.Set low high) h = (set_entry low high, h, refl)
bare_entry types n (type.Initial of start) h = bare_entry types n of h

-- and the other way
pub entry_bare : (types : TypeTable) (n : ℕ) (t : TypeValue) (e : TypeEntry) → slice_get types n ≡ Some e
    → IsEntryOf types t e → IsBare types n t
entry_bare types n (type.Ordinal low high) e there h = there ∙ ap Some h
entry_bare types n type.Text e there h = there ∙ ap Some h
entry_bare types n (type.Array low high of) e there h = (h.0, there ∙ ap Some h.1, h.2)
entry_bare types n (type.Record ts) e there h = (h.0, there ∙ ap Some h.1, h.2)
entry_bare types n (type.Set low high) e there h = there ∙ ap Some h
entry_bare types n (type.Initial of start) e there h = entry_bare types n of e there h

-- it has the size of the type value
pub entry_size : (types : TypeTable) (t : TypeValue) (e : TypeEntry) → IsEntryOf types t e → e.size ≡ size_of t
entry_size types (type.Ordinal low high) e h = ap (λ (x : TypeEntry). x.size) h
entry_size types type.Text e h = ap (λ (x : TypeEntry). x.size) h
entry_size types (type.Array low high of) e h = ap (λ (x : TypeEntry). x.size) h.1
entry_size types (type.Record ts) e h = ap (λ (x : TypeEntry). x.size) h.1
entry_size types (type.Set low high) e h = ap (λ (x : TypeEntry). x.size) h
entry_size types (type.Initial of start) e h = entry_size types of e h

-- in a longer table too
pub entry-longer : (types longer : TypeTable) (t : TypeValue) (e : TypeEntry) → IsPrefix types longer
    → IsEntryOf types t e → IsEntryOf longer t e
entry-longer types longer (type.Ordinal low high) e p h = h
entry-longer types longer type.Text e p h = h
entry-longer types longer (type.Array low high of) e p h = (h.0, h.1, bare-longer types longer h.0 of p h.2)
entry-longer types longer (type.Record ts) e p h = (h.0, h.1, each_bare-longer types longer 0 h.0 ts p h.2)
entry-longer types longer (type.Set low high) e p h = h
entry-longer types longer (type.Initial of start) e p h = entry-longer types longer of e p h

-- components have as many words as their types
each_sized : (types : TypeTable) (before : ℕ) (ps : List RecordPart) (ts : ComponentTypes) → AreBare types before ps ts → HaveSize types before ps (before + sizes_of ts)
each_sized types before [] type.no_component h = omega arith
each_sized types before [] (type.next_component t ts) h = absurd h
each_sized types before (p ∷ ps) type.no_component h = absurd h
each_sized types before (p ∷ ps) (type.next_component t ts) h =
    let c = bare_entry types p.type_number t h.1 in
    let size : c.0.size ≡ size_of t = entry_size types t c.0 c.2 in
    let total : before + size_of t + sizes_of ts ≡ before + (size_of t + sizes_of ts) = omega arith in
    (h.0, c.0, c.1, subst (λ n. HaveSize types (before + n) ps (before + (size_of t + sizes_of ts))) (sym size) (subst (HaveSize types (before + size_of t) ps) total (each_sized types (before + size_of t) ps ts h.2)))

-- its size is the one that its kind has
pub entry_sized : (types : TypeTable) (t : TypeValue) (e : TypeEntry) → IsEntryOf types t e → HasSize types e.kind e.size
entry_sized types (type.Ordinal low high) e h = subst (λ (x : TypeEntry). HasSize types x.kind x.size) (sym h) refl
entry_sized types type.Text e h = subst (λ (x : TypeEntry). HasSize types x.kind x.size) (sym h) refl
entry_sized types (type.Array low high of) e h =
    let c = bare_entry types h.0 of h.2 in
    subst (λ (x : TypeEntry). HasSize types x.kind x.size) (sym h.1) (c.0, c.1, ap (λ n. count_of low high * n) (sym (entry_size types of c.0 c.2)))
entry_sized types (type.Record ts) e h =
    let total : 0 + sizes_of ts ≡ sizes_of ts = omega arith in
    subst (λ (x : TypeEntry). HasSize types x.kind x.size) (sym h.1) (subst (HaveSize types 0 h.0) total (each_sized types 0 h.0 ts h.2))
entry_sized types (type.Set low high) e h = subst (λ (x : TypeEntry). HasSize types x.kind x.size) (sym h) refl
entry_sized types (type.Initial of start) e h = entry_sized types of e h

-- components have one size
one_size_behind : (types : TypeTable) (before : ℕ) (ps : List RecordPart) (size other : ℕ) → HaveSize types before ps size → HaveSize types before ps other → size ≡ other
one_size_behind types before [] size other a b = a ∙ sym b
one_size_behind types before (p ∷ ps) size other a b =
    let same : b.1 ≡ a.1 = same_Some b.1 a.1 (sym b.2 ∙ a.2) in
    one_size_behind types (before + a.1.size) ps size other a.3 (subst (λ (e : TypeEntry). HaveSize types (before + e.size) ps other) same b.3)

-- a kind has one size
pub one_size : (types : TypeTable) (k : TypeKind) (size other : ℕ) → HasSize types k size → HasSize types k other → size ≡ other
one_size types (kind.Ord low high) size other a b = a ∙ sym b
one_size types kind.Pointer size other a b = a ∙ sym b
one_size types kind.Text size other a b = a ∙ sym b
one_size types (kind.Array low high c) size other a b =
    let same : a.0 ≡ b.0 = same_Some a.0 b.0 (sym a.1 ∙ b.1) in
    a.2 ∙ (ap (λ (e : TypeEntry). count_of low high * e.size) same ∙ sym b.2)
one_size types (kind.Record ps) size other a b = one_size_behind types 0 ps size other a b
one_size types (kind.Set low high) size other a b = a ∙ sym b

-- in a longer table too
have_size-longer : (types longer : TypeTable) (before : ℕ) (ps : List RecordPart) (size : ℕ)
    → ((n : ℕ) (e : TypeEntry) → slice_get types n ≡ Some e → slice_get longer n ≡ Some e)
    → HaveSize types before ps size → HaveSize longer before ps size
have_size-longer types longer before [] size keeps h = h
have_size-longer types longer before (p ∷ ps) size keeps h = (h.0, h.1, keeps p.type_number h.1 h.2, have_size-longer types longer (before + h.1.size) ps size keeps h.3)

-- in a longer table too
pub has_size-longer : (types longer : TypeTable) (k : TypeKind) (size : ℕ)
    → ((n : ℕ) (e : TypeEntry) → slice_get types n ≡ Some e → slice_get longer n ≡ Some e)
    → HasSize types k size → HasSize longer k size
has_size-longer types longer (kind.Ord low high) size keeps h = h
has_size-longer types longer kind.Pointer size keeps h = h
has_size-longer types longer kind.Text size keeps h = h
has_size-longer types longer (kind.Array low high c) size keeps h = (h.0, keeps c h.0 h.1, h.2)
has_size-longer types longer (kind.Record ps) size keeps h = have_size-longer types longer 0 ps size keeps h
has_size-longer types longer (kind.Set low high) size keeps h = h

-- ---- a number is that of one type value, and a type value has one number

same_bounds_of : {a b c d : ℤ} → kind.Ord a b ≡ kind.Ord c d → (a ≡ c) × (b ≡ d)
same_bounds_of e = (cc, cc)

same_array : {a b c d : ℤ} {m n : ℕ} → kind.Array a b m ≡ kind.Array c d n → (a ≡ c) × (b ≡ d) × (m ≡ n)
same_array e = (cc, cc, cc)

same_record : {ps qs : List RecordPart} → kind.Record ps ≡ kind.Record qs → ps ≡ qs
same_record e = cc

same_set : {a b c d : ℤ} → kind.Set a b ≡ kind.Set c d → (a ≡ c) × (b ≡ d)
same_set e = (cc, cc)

mutual
  -- an entry is that of one type value
  pub entry_of_one : (types : TypeTable) (t u : TypeValue) (e : TypeEntry) → is_started t ≡ false → is_started u ≡ false → IsEntryOf types t e → IsEntryOf types u e → t ≡ u
  entry_of_one types (type.Ordinal l h) (type.Ordinal m k) e v w a b =
      let s = same_bounds_of (sym (ap (λ (x : TypeEntry). x.kind) a) ∙ ap (λ (x : TypeEntry). x.kind) b) in
      λ i. type.Ordinal (s.0 i) (s.1 i)
  entry_of_one types (type.Ordinal l h) type.Text e v w a b =
      let s : kind.Ord l h ≡ kind.Text = sym (ap (λ (x : TypeEntry). x.kind) a) ∙ ap (λ (x : TypeEntry). x.kind) b in cc
  entry_of_one types (type.Ordinal l h) (type.Array m k of) e v w a b =
      let s : kind.Ord l h ≡ kind.Array m k b.0 = sym (ap (λ (x : TypeEntry). x.kind) a) ∙ ap (λ (x : TypeEntry). x.kind) b.1 in cc
  entry_of_one types (type.Ordinal l h) (type.Record us) e v w a b =
      let s : kind.Ord l h ≡ kind.Record b.0 = sym (ap (λ (x : TypeEntry). x.kind) a) ∙ ap (λ (x : TypeEntry). x.kind) b.1 in cc
  entry_of_one types type.Text (type.Ordinal m k) e v w a b =
      let s : kind.Text ≡ kind.Ord m k = sym (ap (λ (x : TypeEntry). x.kind) a) ∙ ap (λ (x : TypeEntry). x.kind) b in cc
  entry_of_one types type.Text type.Text e v w a b = refl
  entry_of_one types type.Text (type.Array m k of) e v w a b =
      let s : kind.Text ≡ kind.Array m k b.0 = sym (ap (λ (x : TypeEntry). x.kind) a) ∙ ap (λ (x : TypeEntry). x.kind) b.1 in cc
  entry_of_one types type.Text (type.Record us) e v w a b =
      let s : kind.Text ≡ kind.Record b.0 = sym (ap (λ (x : TypeEntry). x.kind) a) ∙ ap (λ (x : TypeEntry). x.kind) b.1 in cc
  entry_of_one types (type.Array l h of) (type.Ordinal m k) e v w a b =
      let s : kind.Array l h a.0 ≡ kind.Ord m k = sym (ap (λ (x : TypeEntry). x.kind) a.1) ∙ ap (λ (x : TypeEntry). x.kind) b in cc
  entry_of_one types (type.Array l h of) type.Text e v w a b =
      let s : kind.Array l h a.0 ≡ kind.Text = sym (ap (λ (x : TypeEntry). x.kind) a.1) ∙ ap (λ (x : TypeEntry). x.kind) b in cc
  entry_of_one types (type.Array l h of) (type.Array m k other) e v w a b =
      let s = same_array (sym (ap (λ (x : TypeEntry). x.kind) a.1) ∙ ap (λ (x : TypeEntry). x.kind) b.1) in
      let p = bare_entry types b.0 of (subst (λ n. IsBare types n of) s.2 a.2) in
      let q = bare_entry types b.0 other b.2 in
      let same : q.0 ≡ p.0 = same_Some q.0 p.0 (sym q.1 ∙ p.1) in
      let c : of ≡ other = entry_of_one types of other p.0 v w p.2 (subst (λ x. IsEntryOf types other x) same q.2) in
      λ i. type.Array (s.0 i) (s.1 i) (c i)
  entry_of_one types (type.Array l h of) (type.Record us) e v w a b =
      let s : kind.Array l h a.0 ≡ kind.Record b.0 = sym (ap (λ (x : TypeEntry). x.kind) a.1) ∙ ap (λ (x : TypeEntry). x.kind) b.1 in cc
  entry_of_one types (type.Record ts) (type.Ordinal m k) e v w a b =
      let s : kind.Record a.0 ≡ kind.Ord m k = sym (ap (λ (x : TypeEntry). x.kind) a.1) ∙ ap (λ (x : TypeEntry). x.kind) b in cc
  entry_of_one types (type.Record ts) type.Text e v w a b =
      let s : kind.Record a.0 ≡ kind.Text = sym (ap (λ (x : TypeEntry). x.kind) a.1) ∙ ap (λ (x : TypeEntry). x.kind) b in cc
  entry_of_one types (type.Record ts) (type.Array m k other) e v w a b =
      let s : kind.Record a.0 ≡ kind.Array m k b.0 = sym (ap (λ (x : TypeEntry). x.kind) a.1) ∙ ap (λ (x : TypeEntry). x.kind) b.1 in cc
  entry_of_one types (type.Record ts) (type.Record us) e v w a b =
      let s : a.0 ≡ b.0 = same_record (sym (ap (λ (x : TypeEntry). x.kind) a.1) ∙ ap (λ (x : TypeEntry). x.kind) b.1) in
      ap type.Record (each_one types 0 b.0 ts us v w (subst (λ ps. AreBare types 0 ps ts) s a.2) b.2)
  entry_of_one types (type.Ordinal l h) (type.Set m k) e v w a b =
      let s : kind.Ord l h ≡ kind.Set m k = sym (ap (λ (x : TypeEntry). x.kind) a) ∙ ap (λ (x : TypeEntry). x.kind) b in cc
  entry_of_one types type.Text (type.Set m k) e v w a b =
      let s : kind.Text ≡ kind.Set m k = sym (ap (λ (x : TypeEntry). x.kind) a) ∙ ap (λ (x : TypeEntry). x.kind) b in cc
  entry_of_one types (type.Array l h of) (type.Set m k) e v w a b =
      let s : kind.Array l h a.0 ≡ kind.Set m k = sym (ap (λ (x : TypeEntry). x.kind) a.1) ∙ ap (λ (x : TypeEntry). x.kind) b in cc
  entry_of_one types (type.Record ts) (type.Set m k) e v w a b =
      let s : kind.Record a.0 ≡ kind.Set m k = sym (ap (λ (x : TypeEntry). x.kind) a.1) ∙ ap (λ (x : TypeEntry). x.kind) b in cc
  entry_of_one types (type.Set l h) (type.Ordinal m k) e v w a b =
      let s : kind.Set l h ≡ kind.Ord m k = sym (ap (λ (x : TypeEntry). x.kind) a) ∙ ap (λ (x : TypeEntry). x.kind) b in cc
  entry_of_one types (type.Set l h) type.Text e v w a b =
      let s : kind.Set l h ≡ kind.Text = sym (ap (λ (x : TypeEntry). x.kind) a) ∙ ap (λ (x : TypeEntry). x.kind) b in cc
  entry_of_one types (type.Set l h) (type.Array m k other) e v w a b =
      let s : kind.Set l h ≡ kind.Array m k b.0 = sym (ap (λ (x : TypeEntry). x.kind) a) ∙ ap (λ (x : TypeEntry). x.kind) b.1 in cc
  entry_of_one types (type.Set l h) (type.Record us) e v w a b =
      let s : kind.Set l h ≡ kind.Record b.0 = sym (ap (λ (x : TypeEntry). x.kind) a) ∙ ap (λ (x : TypeEntry). x.kind) b.1 in cc
  entry_of_one types (type.Set l h) (type.Set m k) e v w a b =
      let s = same_set (sym (ap (λ (x : TypeEntry). x.kind) a) ∙ ap (λ (x : TypeEntry). x.kind) b) in
      λ i. type.Set (s.0 i) (s.1 i)
  entry_of_one types (type.Ordinal l h) (type.Initial u start) e v w a b = cc
  entry_of_one types type.Text (type.Initial u start) e v w a b = cc
  entry_of_one types (type.Array l h of) (type.Initial u start) e v w a b = cc
  entry_of_one types (type.Record ts) (type.Initial u start) e v w a b = cc
  entry_of_one types (type.Set l h) (type.Initial u start) e v w a b = cc
  entry_of_one types (type.Initial t start) u e v w a b = cc

  -- and components are those of one list of types
  each_one : (types : TypeTable) (before : ℕ) (ps : List RecordPart) (ts us : ComponentTypes) → are_started ts ≡ false → are_started us ≡ false → AreBare types before ps ts → AreBare types before ps us → ts ≡ us
  each_one types before [] type.no_component type.no_component v w a b = refl
  each_one types before [] type.no_component (type.next_component u us) v w a b = absurd b
  each_one types before [] (type.next_component t ts) us v w a b = absurd a
  each_one types before (p ∷ ps) type.no_component us v w a b = absurd a
  each_one types before (p ∷ ps) (type.next_component t ts) type.no_component v w a b = absurd b
  each_one types before (p ∷ ps) (type.next_component t ts) (type.next_component u us) v w a b =
      let x = bare_entry types p.type_number t a.1 in
      let y = bare_entry types p.type_number u b.1 in
      let same : y.0 ≡ x.0 = same_Some y.0 x.0 (sym y.1 ∙ x.1) in
      let tv = neither (is_started t) (are_started ts) v in
      let uw = neither (is_started u) (are_started us) w in
      let first : t ≡ u = entry_of_one types t u x.0 tv.0 uw.0 x.2 (subst (λ e. IsEntryOf types u e) same y.2) in
      let rest : ts ≡ us = each_one types (before + size_of t) ps ts us tv.1 uw.1 a.2 (subst (λ v. AreBare types (before + size_of v) ps us) (sym first) b.2) in
      λ i. type.next_component (first i) (rest i)

mutual
  -- a bare form is that of its own bare form
  pub bare_form : (types : TypeTable) (n : ℕ) (t : TypeValue) → IsBare types n t → IsBare types n (bare_of t)
  bare_form types n (type.Ordinal low high) h = h
  bare_form types n type.Text h = h
  bare_form types n (type.Array low high of) h =
      (h.0, h.1 ∙ ap (λ size. Some (array_entry low high h.0 (count_of low high * size))) (sym (bare_size of)), bare_form types h.0 of h.2)
  bare_form types n (type.Record ts) h =
      (h.0, h.1 ∙ ap (λ size. Some (record_entry h.0 size)) (sym (bare_sizes ts)), each_form types 0 h.0 ts h.2)
  bare_form types n (type.Set low high) h = h
  bare_form types n (type.Initial of start) h = bare_form types n of h

  each_form : (types : TypeTable) (before : ℕ) (ps : List RecordPart) (ts : ComponentTypes) → AreBare types before ps ts → AreBare types before ps (bare_each ts)
  each_form types before [] type.no_component h = tt
  each_form types before [] (type.next_component t ts) h = absurd h
  each_form types before (p ∷ ps) type.no_component h = absurd h
  each_form types before (p ∷ ps) (type.next_component t ts) h =
      (h.0, bare_form types p.type_number t h.1, subst (λ size. AreBare types (before + size) ps (bare_each ts)) (sym (bare_size t)) (each_form types (before + size_of t) ps ts h.2))

-- and a number is that of the bare form of one type value
pub bare_one : (types : TypeTable) (n : ℕ) (t u : TypeValue) → IsBare types n t → IsBare types n u → bare_of t ≡ bare_of u
bare_one types n t u p q =
    let a = bare_entry types n (bare_of t) (bare_form types n t p) in
    let b = bare_entry types n (bare_of u) (bare_form types n u q) in
    let same : b.0 ≡ a.0 = same_Some b.0 a.0 (sym b.1 ∙ a.1) in
    entry_of_one types (bare_of t) (bare_of u) a.0 (bare_unstarted t) (bare_unstarted u) a.2 (subst (λ e. IsEntryOf types (bare_of u) e) same b.2)

mutual
  -- a type value has one entry, and one number
  pub one_entry : {elaborated : List TypeValue} (types : TypeTable) (t : TypeValue) (e f : TypeEntry)
      → MatchesTypes elaborated types → IsEntryOf types t e → IsEntryOf types t f → e ≡ f
  one_entry types (type.Ordinal low high) e f m a b = a ∙ sym b
  one_entry types type.Text e f m a b = a ∙ sym b
  one_entry types (type.Array low high of) e f m a b =
      let p = bare_entry types a.0 of a.2 in
      let q = bare_entry types b.0 of b.2 in
      let same : q.0 ≡ p.0 = one_entry types of q.0 p.0 m q.2 p.2 in
      let c : a.0 ≡ b.0 = m.shared a.0 b.0 p.0 p.1 (q.1 ∙ ap Some same) in
      a.1 ∙ (ap (λ n. array_entry low high n (size_of (type.Array low high of))) c ∙ sym b.1)
  one_entry types (type.Record ts) e f m a b =
      let same : a.0 ≡ b.0 = each_part types 0 a.0 b.0 ts m a.2 b.2 in
      a.1 ∙ (ap (λ ps. record_entry ps (size_of (type.Record ts))) same ∙ sym b.1)
  one_entry types (type.Set low high) e f m a b = a ∙ sym b
  one_entry types (type.Initial of start) e f m a b = one_entry types of e f m a b

  -- and types have one list of components
  each_part : {elaborated : List TypeValue} (types : TypeTable) (before : ℕ) (ps qs : List RecordPart) (ts : ComponentTypes)
      → MatchesTypes elaborated types → AreBare types before ps ts → AreBare types before qs ts → ps ≡ qs
  each_part types before [] [] type.no_component m a b = refl
  each_part types before [] (q ∷ qs) type.no_component m a b = absurd b
  each_part types before (p ∷ ps) qs type.no_component m a b = absurd a
  each_part types before [] qs (type.next_component t ts) m a b = absurd a
  each_part types before (p ∷ ps) [] (type.next_component t ts) m a b = absurd b
  each_part types before (p ∷ ps) (q ∷ qs) (type.next_component t ts) m a b =
      let x = bare_entry types p.type_number t a.1 in
      let y = bare_entry types q.type_number t b.1 in
      let same : y.0 ≡ x.0 = one_entry types t y.0 x.0 m y.2 x.2 in
      let number : p.type_number ≡ q.type_number = m.shared p.type_number q.type_number x.0 x.1 (y.1 ∙ ap Some same) in
      let offset : p.offset ≡ q.offset = a.0 ∙ sym b.0 in
      let rest : ps ≡ qs = each_part types (before + size_of t) ps qs ts m a.2 b.2 in
      λ i. record { type_number = number i; offset = offset i } ∷ rest i

pub one_bare_number : {elaborated : List TypeValue} (types : TypeTable) (t : TypeValue) (m n : ℕ)
    → MatchesTypes elaborated types → IsBare types m t → IsBare types n t → m ≡ n
one_bare_number types t m n matches p q =
    let a = bare_entry types m t p in
    let b = bare_entry types n t q in
    let same : b.0 ≡ a.0 = one_entry types t b.0 a.0 matches b.2 a.2 in
    matches.shared m n a.0 a.1 (b.1 ∙ ap Some same)
