-- Which types are equal, and what a hasher gets of a type: the laws by which a table finds a type by hash.
use Rattle.std.specs.Prelude.{◌≡◌, ℕ, ℤ, Bool, true, false, IsTrue, int_le, ◌==◌, ◌&&◌, List, [], ◌∷◌, ◌++◌, Option}
use Rattle.std.specs.Prelude.{Some, None}
use Rattle.std.proofs.Common.{refl, ap, subst, arith}
use Rattle.std.proofs.lemmas.Bool.Decides.{nat_tests}
use Rattle.std.proofs.lemmas.Int.{ints}
use Rattle.std.specs.Bool.{Decides}
use Rattle.std.specs.Cmp.{IsEquivalence, decided, on_equiv}
use Rattle.std.specs.Hash as fed
use Rattle.std.specs.Hash.{HashWrites, same_Alike, on_Alike}
use Rattle.ep_object.specs.Types.{same_bare, same_begin, same_entry, same_kind, same_parts, same_word, same_words}
use Rattle.ep_object.specs.declared.state.TypeKind.{TypeKind}
use Rattle.ep_object.specs.declared.state.TypeKind.TheVariants.{Ord, Pointer, Text, Array, Record, Set}
use Rattle.ep_object.specs.declared.state.RecordPart.{RecordPart}
use Rattle.ep_object.specs.declared.state.TypeEntry.{TypeEntry}
use Rattle.ep_values.specs.TypeValues.{same_bounds}

-- ---- what a hasher gets

-- the numbers of the types of components, from which their places follow
abbrev pub parts_writes : List RecordPart → HashWrites
parts_writes [] = []
parts_writes (p ∷ ps) = fed.u32 p.type_number ++ parts_writes ps

-- nearly all by which kinds differ
abbrev pub kind_writes : TypeKind → HashWrites
kind_writes (Ord lo hi) = fed.i64 lo ++ fed.i64 hi
kind_writes Pointer = fed.u8 0
kind_writes Text = fed.u8 1
kind_writes (Array lo hi c) = fed.i64 lo ++ fed.i64 hi ++ fed.u32 c
kind_writes (Record ps) = parts_writes ps
kind_writes (Set lo hi) = fed.u8 2 ++ fed.i64 lo ++ fed.i64 hi

-- words, one after another
abbrev pub words_writes : List ℤ → HashWrites
words_writes [] = []
words_writes (w ∷ ws) = fed.i64 w ++ words_writes ws

-- those with which a type begins, where it keeps any
abbrev pub begin_writes : Option (List ℤ) → HashWrites
begin_writes None = []
begin_writes (Some ws) = words_writes ws

-- the kind and those words; of the bare form nothing, which follows from them for nearly all types
abbrev pub entry_writes : TypeEntry → HashWrites
entry_writes e = kind_writes e.kind ++ begin_writes e.start

-- ---- kinds that are told to be the same are

pub both : (a b : Bool) → IsTrue (a && b) → IsTrue a × IsTrue b
both true b h = (refl, h)
both false b h = cc

-- numbers of which neither is above the other are the same
same_number : (x y : ℤ) → IsTrue (int_le x y && int_le y x) → x ≡ y
same_number x y h = let p = both (int_le x y) (int_le y x) h in omega (arith, ints, p.0, p.1)

-- the same bounds
pub bounds_are : (low high l h : ℤ) → IsTrue (same_bounds l h low high) → (l ≡ low) × (h ≡ high)
bounds_are low high l h t =
    let p = both (int_le l low && int_le low l) (int_le h high && int_le high h) t in
    (same_number l low p.0, same_number h high p.1)

-- equal numbers are told to be so
same_count : (m n : ℕ) → IsTrue (m == n) → m ≡ n
same_count m n h = grind (arith, nat_tests)

-- components that are told to be the same are
parts_are : (ps qs : List RecordPart) → IsTrue (same_parts ps qs) → ps ≡ qs
parts_are [] [] t = refl
parts_are [] (q ∷ qs) t = cc
parts_are (p ∷ ps) [] t = cc
parts_are (p ∷ ps) (q ∷ qs) t =
    let x = both (p.type_number == q.type_number && p.offset == q.offset) (same_parts ps qs) t in
    let y = both (p.type_number == q.type_number) (p.offset == q.offset) x.0 in
    let number = same_count p.type_number q.type_number y.0 in
    let offset = same_count p.offset q.offset y.1 in
    let rest = parts_are ps qs x.1 in
    λ i. record { type_number = number i; offset = offset i } ∷ rest i

-- kinds that are told to be the same are
pub kinds_are : (k l : TypeKind) → IsTrue (same_kind k l) → k ≡ l
kinds_are (Ord lo hi) (Ord l h) t = let e = bounds_are l h lo hi t in λ i. Ord (e.0 i) (e.1 i)
kinds_are (Ord lo hi) Pointer t = cc
kinds_are (Ord lo hi) Text t = cc
kinds_are (Ord lo hi) (Record qs) t = cc
kinds_are (Ord lo hi) (Array l h d) t = cc
kinds_are (Ord lo hi) (Set l h) t = cc
kinds_are Pointer (Ord l h) t = cc
kinds_are Pointer Pointer t = refl
kinds_are Pointer Text t = cc
kinds_are Pointer (Record qs) t = cc
kinds_are Pointer (Array l h d) t = cc
kinds_are Pointer (Set l h) t = cc
kinds_are Text (Ord l h) t = cc
kinds_are Text Pointer t = cc
kinds_are Text Text t = refl
kinds_are Text (Record qs) t = cc
kinds_are Text (Array l h d) t = cc
kinds_are Text (Set l h) t = cc
kinds_are (Array lo hi c) (Ord l h) t = cc
kinds_are (Array lo hi c) Pointer t = cc
kinds_are (Array lo hi c) Text t = cc
kinds_are (Array lo hi c) (Record qs) t = cc
kinds_are (Array lo hi c) (Set l h) t = cc
kinds_are (Array lo hi c) (Array l h d) t =
    let p = both (same_bounds lo hi l h) (c == d) t in
    let e = bounds_are l h lo hi p.0 in
    let f = same_count c d p.1 in
    λ i. Array (e.0 i) (e.1 i) (f i)
kinds_are (Record ps) (Ord l h) t = cc
kinds_are (Record ps) Pointer t = cc
kinds_are (Record ps) Text t = cc
kinds_are (Record ps) (Array l h d) t = cc
kinds_are (Record ps) (Record qs) t = ap Record (parts_are ps qs t)
kinds_are (Record ps) (Set l h) t = cc
kinds_are (Set lo hi) (Ord l h) t = cc
kinds_are (Set lo hi) Pointer t = cc
kinds_are (Set lo hi) Text t = cc
kinds_are (Set lo hi) (Array l h d) t = cc
kinds_are (Set lo hi) (Record qs) t = cc
kinds_are (Set lo hi) (Set l h) t = let e = bounds_are l h lo hi t in λ i. Set (e.0 i) (e.1 i)

-- ---- a kind is the same as itself

both_true : (a b : Bool) → IsTrue a → IsTrue b → IsTrue (a && b)
both_true true b p q = q
both_true false b p q = cc

bounds-refl : (lo hi : ℤ) → IsTrue (same_bounds lo hi lo hi)
bounds-refl lo hi = grind (arith, ints)

count-refl : (n : ℕ) → IsTrue (n == n)
count-refl n = grind (arith, nat_tests)

parts-refl : (ps : List RecordPart) → IsTrue (same_parts ps ps)
parts-refl [] = refl
parts-refl (p ∷ ps) =
    both_true (p.type_number == p.type_number && p.offset == p.offset) (same_parts ps ps)
    (both_true (p.type_number == p.type_number) (p.offset == p.offset) (count-refl p.type_number)
    (count-refl p.offset))
    (parts-refl ps)

pub kind-refl : (k : TypeKind) → IsTrue (same_kind k k)
kind-refl (Ord lo hi) = bounds-refl lo hi
kind-refl Pointer = refl
kind-refl Text = refl
kind-refl (Array lo hi c) = both_true (same_bounds lo hi lo hi) (c == c) (bounds-refl lo hi) (count-refl c)
kind-refl (Record ps) = parts-refl ps
kind-refl (Set lo hi) = bounds-refl lo hi

-- ---- words to begin with, and bare forms

words_are : (ws zs : List ℤ) → IsTrue (same_words ws zs) → ws ≡ zs
words_are [] [] t = refl
words_are [] (z ∷ zs) t = cc
words_are (w ∷ ws) [] t = cc
words_are (w ∷ ws) (z ∷ zs) t =
    let p = both (same_word w z) (same_words ws zs) t in
    let first = same_number w z p.0 in
    let rest = words_are ws zs p.1 in
    λ i. first i ∷ rest i

pub begins_are : (a b : Option (List ℤ)) → IsTrue (same_begin a b) → a ≡ b
begins_are None None t = refl
begins_are None (Some zs) t = cc
begins_are (Some ws) None t = cc
begins_are (Some ws) (Some zs) t = ap Some (words_are ws zs t)

pub bares_are : (a b : Option ℕ) → IsTrue (same_bare a b) → a ≡ b
bares_are None None t = refl
bares_are None (Some c) t = cc
bares_are (Some b) None t = cc
bares_are (Some b) (Some c) t = ap Some (same_count b c t)

word-refl : (w : ℤ) → IsTrue (same_word w w)
word-refl w = grind (arith, ints)

words-refl : (ws : List ℤ) → IsTrue (same_words ws ws)
words-refl [] = refl
words-refl (w ∷ ws) = both_true (same_word w w) (same_words ws ws) (word-refl w) (words-refl ws)

begin-refl : (a : Option (List ℤ)) → IsTrue (same_begin a a)
begin-refl None = refl
begin-refl (Some ws) = words-refl ws

bare-refl : (a : Option ℕ) → IsTrue (same_bare a a)
bare-refl None = refl
bare-refl (Some b) = count-refl b

-- ---- the laws of a table

-- what a type has besides its size, which follows
pub record Told : Type 0 where
  pub kind : TypeKind
  pub start : Option (List ℤ)
  pub bare : Option ℕ

abbrev pub told : TypeEntry → Told
told e = record { kind = e.kind; start = e.start; bare = e.bare }

abbrev pub same_told : Told → Told → Bool
same_told d e = same_kind d.kind e.kind && (same_begin d.start e.start && same_bare d.bare e.bare)

-- what is told to be the same is
pub told_are : (d e : Told) → IsTrue (same_told d e) → d ≡ e
told_are d e t =
    let p = both (same_kind d.kind e.kind) (same_begin d.start e.start && same_bare d.bare e.bare) t in
    let q = both (same_begin d.start e.start) (same_bare d.bare e.bare) p.1 in
    let k = kinds_are d.kind e.kind p.0 in
    let s = begins_are d.start e.start q.0 in
    let b = bares_are d.bare e.bare q.1 in
    λ i. record { kind = k i; start = s i; bare = b i }

pub told-refl : (e : Told) → IsTrue (same_told e e)
told-refl e =
    both_true (same_kind e.kind e.kind) (same_begin e.start e.start && same_bare e.bare e.bare) (kind-refl e.kind)
    (both_true (same_begin e.start e.start) (same_bare e.bare e.bare) (begin-refl e.start) (bare-refl e.bare))

-- a type is the same as itself
pub entry-refl : (e : TypeEntry) → IsTrue (same_entry e e)
entry-refl e = told-refl (told e)

-- whether types are told to be the same decides whether they are
told_decides : (d e : Told) → Decides (same_told d e) (d ≡ e)
told_decides d e = (told_are d e, λ same. subst (λ x. same_told d x ≡ true) same (told-refl d))

-- being the same type is an equivalence
pub entries_equivalent : IsEquivalence same_entry
entries_equivalent = on_equiv told (decided same_told told_decides)

abbrev told_writes : Told → HashWrites
told_writes e = kind_writes e.kind ++ begin_writes e.start

-- the same types have the same hash
pub entries_alike : (a b : TypeEntry) → same_entry a b ≡ true → entry_writes a ≡ entry_writes b
entries_alike = (on_Alike told (same_Alike told_writes told_decides)).fed
