-- Types of a table that describe type values, but for initial states.
use Rattle.std.proofs.Common.{◌≡◌, ℕ, ℤ, ◌+◌, List, [], ◌∷◌, Option, Some, None, slice_get, refl, sym, ap, ◌∙◌, subst}
use Rattle.std.specs.Prelude.{is_some}
use Rattle.std.proofs.lemmas.Option.{same_Some}
use Rattle.ep_simulation.specs.Matching.{AreEntries, Describes, IsBare, IsKindOf, IsLike, MatchesTypes}
use Rattle.ep_object.specs.Sets.{set_size}
use Rattle.ep_simulation.specs.Starts.{words_kept}
use Rattle.ep_object.specs.State.{TypeTable, bare_number}
use Rattle.ep_object.specs.declared.state.TypeKind.{TypeKind}
use Rattle.ep_object.specs.declared.state.TypeKind.TheVariants as kind
use Rattle.ep_object.specs.declared.state.RecordPart.{RecordPart}
use Rattle.ep_object.specs.declared.state.TypeEntry.{TypeEntry}
use Rattle.ep_simulation.proofs.matching.Described.{bare_form, bare_one, one_bare_number}
use Rattle.ep_simulation.proofs.public.matching.MoreMemory.{entry_as}
use Rattle.ep_meaning.proofs.public.Bares.{bare_size, bare_twice}
use Rattle.ep_values.specs.TypeValues as type
use Rattle.ep_values.specs.TypeValues.{ComponentTypes, Start, TypeValue, bare_each, bare_of, size_of}

-- ---- what is known of a type by what it describes but for initial states

abbrev mutual
  -- the kind of a type value without initial states, whose components have types that describe them but for initial states
  pub IsKindLike : TypeTable → TypeValue → TypeKind → Type 0
  IsKindLike types (type.Ordinal low high) k = k ≡ kind.Ord low high
  IsKindLike types type.Text k = k ≡ kind.Text
  IsKindLike types (type.Array low high of) k = (c : ℕ) × (k ≡ kind.Array low high c) × IsLike types c of
  IsKindLike types (type.Record ts) k = (ps : List RecordPart) × (k ≡ kind.Record ps) × AreLike types 0 ps ts
  IsKindLike types (type.Set low high) k = k ≡ kind.Set low high
  IsKindLike types (type.Initial of start) k = ⊥

  pub AreLike : TypeTable → ℕ → List RecordPart → ComponentTypes → Type 0
  AreLike types before [] type.no_component = Unit {0}
  AreLike types before [] (type.next_component t ts) = ⊥
  AreLike types before (p ∷ ps) type.no_component = ⊥
  AreLike types before (p ∷ ps) (type.next_component t ts) = (p.offset ≡ before) × IsLike types p.type_number t × AreLike types (before + size_of t) ps ts

mutual
  -- a kind is that of the bare form
  pub kind_like : (types : TypeTable) (u : TypeValue) (k : TypeKind) → IsKindOf types u k → IsKindLike types (bare_of u) k
  kind_like types (type.Ordinal low high) k h = h
  kind_like types type.Text k h = h
  kind_like types (type.Array low high of) k h = (h.0, h.1, (of, refl, h.2))
  kind_like types (type.Record ts) k h = (h.0, h.1, entries_like types 0 h.0 ts h.2)
  kind_like types (type.Set low high) k h = h
  kind_like types (type.Initial of start) k h = kind_like types of k h

  entries_like : (types : TypeTable) (before : ℕ) (ps : List RecordPart) (ts : ComponentTypes) → AreEntries types before ps ts → AreLike types before ps (bare_each ts)
  entries_like types before [] type.no_component h = tt
  entries_like types before [] (type.next_component t ts) h = absurd h
  entries_like types before (p ∷ ps) type.no_component h = absurd h
  entries_like types before (p ∷ ps) (type.next_component t ts) h =
      (h.0, (t, refl, h.1), subst (λ size. AreLike types (before + size) ps (bare_each ts)) (sym (bare_size t)) (entries_like types (before + size_of t) ps ts h.2))

-- the entry of such a type: its kind, its size, and its bare form; what it begins with is left open
pub record LikeEntry (types : TypeTable) (n : ℕ) (t : TypeValue) : Type 0 where
  pub kind : TypeKind
  pub start : Option (List ℤ)
  pub bare : Option ℕ
  pub stands : slice_get types n ≡ Some (record { kind = kind; size = size_of t; start = start; bare = bare })
  pub is_kind : IsKindLike types t kind
  pub form : IsBare types (bare_number n bare) t

pub like_entry : (types : TypeTable) (n : ℕ) (t : TypeValue) → IsLike types n t → LikeEntry types n t
like_entry types n t (u, is, d) = subst (LikeEntry types n) is (record {
  kind = d.kind;
  start = words_kept u;
  bare = d.bare;
  stands = d.stands ∙ ap (λ size. Some (record { kind = d.kind; size = size; start = words_kept u; bare = d.bare })) (sym (bare_size u));
  is_kind = kind_like types u d.kind d.is_kind;
  form = bare_form types (bare_number n d.bare) u d.form;
})

-- ---- the entries of such types

-- there is one, with the size of the type value
pub like_there : (types : TypeTable) (n : ℕ) (t : TypeValue) → IsLike types n t → (e : TypeEntry) × (slice_get types n ≡ Some e) × (e.size ≡ size_of t)
like_there types n t h = let e = like_entry types n t h in (record { kind = e.kind; size = size_of t; start = e.start; bare = e.bare }, e.stands, refl)

like_ordinal_of : (types : TypeTable) (n : ℕ) (low high : ℤ) → LikeEntry types n (type.Ordinal low high)
    → (start : Option (List ℤ)) × (bare : Option ℕ) × (slice_get types n ≡ Some (record { kind = kind.Ord low high; size = 1; start = start; bare = bare }))
like_ordinal_of types n low high e = (e.start, e.bare, e.stands ∙ ap (λ k. Some (record { kind = k; size = 1; start = e.start; bare = e.bare })) e.is_kind)

pub like_ordinal : (types : TypeTable) (n : ℕ) (low high : ℤ) → IsLike types n (type.Ordinal low high)
    → (start : Option (List ℤ)) × (bare : Option ℕ) × (slice_get types n ≡ Some (record { kind = kind.Ord low high; size = 1; start = start; bare = bare }))
like_ordinal types n low high h = like_ordinal_of types n low high (like_entry types n (type.Ordinal low high) h)

like_set_of : (types : TypeTable) (n : ℕ) (low high : ℤ) → LikeEntry types n (type.Set low high)
    → (start : Option (List ℤ)) × (bare : Option ℕ) × (slice_get types n ≡ Some (record { kind = kind.Set low high; size = set_size; start = start; bare = bare }))
like_set_of types n low high e = (e.start, e.bare, e.stands ∙ ap (λ k. Some (record { kind = k; size = set_size; start = e.start; bare = e.bare })) e.is_kind)

pub like_set : (types : TypeTable) (n : ℕ) (low high : ℤ) → IsLike types n (type.Set low high)
    → (start : Option (List ℤ)) × (bare : Option ℕ) × (slice_get types n ≡ Some (record { kind = kind.Set low high; size = set_size; start = start; bare = bare }))
like_set types n low high h = like_set_of types n low high (like_entry types n (type.Set low high) h)

-- an array, by the type of its components
pub record LikeArray (types : TypeTable) (n : ℕ) (low high : ℤ) (of : TypeValue) : Type 0 where
  pub component : ℕ
  pub start : Option (List ℤ)
  pub bare : Option ℕ
  pub stands : slice_get types n ≡ Some (record { kind = kind.Array low high component; size = size_of (type.Array low high of); start = start; bare = bare })
  pub like : IsLike types component of
  pub form : IsBare types (bare_number n bare) (type.Array low high of)

like_array_of : (types : TypeTable) (n : ℕ) (low high : ℤ) (of : TypeValue) → LikeEntry types n (type.Array low high of) → LikeArray types n low high of
like_array_of types n low high of e =
    let k = e.is_kind in
    record { component = k.0; start = e.start; bare = e.bare; stands = e.stands ∙ ap (λ x. Some (record { kind = x; size = size_of (type.Array low high of); start = e.start; bare = e.bare })) k.1; like = k.2; form = e.form }

pub like_array : (types : TypeTable) (n : ℕ) (low high : ℤ) (of : TypeValue) → IsLike types n (type.Array low high of) → LikeArray types n low high of
like_array types n low high of h = like_array_of types n low high of (like_entry types n (type.Array low high of) h)

-- a record, by those of its components
pub record LikeRecord (types : TypeTable) (n : ℕ) (ts : ComponentTypes) : Type 0 where
  pub parts : List RecordPart
  pub start : Option (List ℤ)
  pub bare : Option ℕ
  pub stands : slice_get types n ≡ Some (record { kind = kind.Record parts; size = size_of (type.Record ts); start = start; bare = bare })
  pub like : AreLike types 0 parts ts
  pub form : IsBare types (bare_number n bare) (type.Record ts)

like_record_of : (types : TypeTable) (n : ℕ) (ts : ComponentTypes) → LikeEntry types n (type.Record ts) → LikeRecord types n ts
like_record_of types n ts e =
    let k = e.is_kind in
    record { parts = k.0; start = e.start; bare = e.bare; stands = e.stands ∙ ap (λ x. Some (record { kind = x; size = size_of (type.Record ts); start = e.start; bare = e.bare })) k.1; like = k.2; form = e.form }

pub like_record : (types : TypeTable) (n : ℕ) (ts : ComponentTypes) → IsLike types n (type.Record ts) → LikeRecord types n ts
like_record types n ts h = like_record_of types n ts (like_entry types n (type.Record ts) h)

-- and no type is like one with an initial state
pub no_like_initial : (types : TypeTable) (n : ℕ) (of : TypeValue) (start : Start) → IsLike types n (type.Initial of start) → ⊥
no_like_initial types n of start h = let e = like_entry types n (type.Initial of start) h in e.is_kind

-- what describes a type value describes its bare form
pub described_like : (types : TypeTable) (n : ℕ) (t : TypeValue) → Describes types n t → IsLike types n (bare_of t)
described_like types n t d = (t, refl, d)

-- a type is like one type value
pub like_one : (types : TypeTable) (n : ℕ) (t u : TypeValue) → IsLike types n t → IsLike types n u → t ≡ u
like_one types n t u p q =
    let a = like_entry types n t p in
    let b = like_entry types n u q in
    let same : b.bare ≡ a.bare = ap (λ (e : TypeEntry). e.bare) (same_Some (record { kind = b.kind; size = size_of u; start = b.start; bare = b.bare }) (record { kind = a.kind; size = size_of t; start = a.start; bare = a.bare }) (sym b.stands ∙ a.stands)) in
    let one : bare_of t ≡ bare_of u = bare_one types (bare_number n a.bare) t u a.form (subst (λ x. IsBare types (bare_number n x) u) same b.form) in
    sym (own t p) ∙ (one ∙ own u q)
  where
    own : (v : TypeValue) → IsLike types n v → bare_of v ≡ v
    own v (w, is, d) = ap bare_of (sym is) ∙ (bare_twice w ∙ is)

-- ---- a type value has one number

none_or : (a b : ℕ) (x y : Option ℕ) {elaborated : List TypeValue} (types : TypeTable) (t : TypeValue) → MatchesTypes elaborated types
    → is_some x ≡ is_some y → IsBare types (bare_number a x) t → IsBare types (bare_number b y) t → x ≡ y
none_or a b None None types t m same p q = refl
none_or a b None (Some y) types t m same p q = cc
none_or a b (Some x) None types t m same p q = cc
none_or a b (Some x) (Some y) types t m same p q = ap Some (one_bare_number types t x y m p q)

mutual
  -- it has one kind
  pub one_kind : {elaborated : List TypeValue} (types : TypeTable) (t : TypeValue) (k l : TypeKind) → MatchesTypes elaborated types → IsKindOf types t k → IsKindOf types t l → k ≡ l
  one_kind types (type.Ordinal low high) k l m a b = a ∙ sym b
  one_kind types type.Text k l m a b = a ∙ sym b
  one_kind types (type.Array low high of) k l m a b =
      let x = a.2 in
      let y = b.2 in
      let kinds : x.kind ≡ y.kind = one_kind types of x.kind y.kind m x.is_kind y.is_kind in
      let bares : x.bare ≡ y.bare = none_or a.0 b.0 x.bare y.bare types of m (x.other ∙ sym y.other) x.form y.form in
      let same : a.0 ≡ b.0 = m.shared a.0 b.0 (entry_as of x.kind x.bare) x.stands (y.stands ∙ (λ i. Some (entry_as of (sym kinds i) (sym bares i)))) in
      a.1 ∙ (ap (kind.Array low high) same ∙ sym b.1)
  one_kind types (type.Record ts) k l m a b = a.1 ∙ (ap kind.Record (one_parts types 0 a.0 b.0 ts m a.2 b.2) ∙ sym b.1)
  one_kind types (type.Set low high) k l m a b = a ∙ sym b
  one_kind types (type.Initial of start) k l m a b = one_kind types of k l m a b

  one_parts : {elaborated : List TypeValue} (types : TypeTable) (before : ℕ) (ps qs : List RecordPart) (ts : ComponentTypes)
      → MatchesTypes elaborated types → AreEntries types before ps ts → AreEntries types before qs ts → ps ≡ qs
  one_parts types before [] [] type.no_component m a b = refl
  one_parts types before [] (q ∷ qs) type.no_component m a b = absurd b
  one_parts types before (p ∷ ps) qs type.no_component m a b = absurd a
  one_parts types before [] qs (type.next_component t ts) m a b = absurd a
  one_parts types before (p ∷ ps) [] (type.next_component t ts) m a b = absurd b
  one_parts types before (p ∷ ps) (q ∷ qs) (type.next_component t ts) m a b =
      let x = a.1 in
      let y = b.1 in
      let kinds : x.kind ≡ y.kind = one_kind types t x.kind y.kind m x.is_kind y.is_kind in
      let bares : x.bare ≡ y.bare = none_or p.type_number q.type_number x.bare y.bare types t m (x.other ∙ sym y.other) x.form y.form in
      let number : p.type_number ≡ q.type_number = m.shared p.type_number q.type_number (entry_as t x.kind x.bare) x.stands (y.stands ∙ (λ i. Some (entry_as t (sym kinds i) (sym bares i)))) in
      let offset : p.offset ≡ q.offset = a.0 ∙ sym b.0 in
      let rest : ps ≡ qs = one_parts types (before + size_of t) ps qs ts m a.2 b.2 in
      λ i. record { type_number = number i; offset = offset i } ∷ rest i

-- and so one number
pub one_number : {elaborated : List TypeValue} (types : TypeTable) (t : TypeValue) (a b : ℕ) → MatchesTypes elaborated types → Describes types a t → Describes types b t → a ≡ b
one_number types t a b m x y =
    let kinds : x.kind ≡ y.kind = one_kind types t x.kind y.kind m x.is_kind y.is_kind in
    let bares : x.bare ≡ y.bare = none_or a b x.bare y.bare types t m (x.other ∙ sym y.other) x.form y.form in
    m.shared a b (entry_as t x.kind x.bare) x.stands (y.stands ∙ (λ i. Some (entry_as t (sym kinds i) (sym bares i))))
