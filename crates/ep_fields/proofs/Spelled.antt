-- A field that is read is the one that was written, and what was written is read again.
use Rattle.std.proofs.Common.{◌≡◌, ℕ, ℤ, ◌+◌, ◌^◌, ◌<◌, ◌≤◌, Bool, true, false, cond, ltb, List, [], ◌∷◌, ◌++◌, FitsSigned, length, take, drop, Option, Some, None, Ok, Err, refl, sym, ap, subst, ◌∙◌, append_assoc, arith, inl, inr}
use Rattle.std.specs.Int.{w8, w32, w64, from_be_bytes, to_be_bytes, cast_signed, cast_unsigned}
use Rattle.std.proofs.lemmas.Bool.{cases_lt, ltb-false, le-ltb}
use Rattle.std.proofs.Math.Facts.{Fits-lt-pow, Fits-of_lt, Fits-of_z, sfits_to_z}
use Rattle.std.proofs.lemmas.Int.{to_z-of_z, of_z-to_z}
use Rattle.std.proofs.lemmas.List.{take_at, drop_at, drop-drop, take-append-drop, length-append, length-take, get_or-drop, get_or-take, get_or_past}
use Rattle.std.proofs.lemmas.Nat.{be_bytes_4, be_bytes_8, from_be_bytes-to_be_bytes_4, from_be_bytes-to_be_bytes_8}
use Rattle.ep_base.specs.Identifiers.{is_name}
use Rattle.ep_fields.specs.declared.refusal.FieldRefusal.{FieldRefusal}
use Rattle.ep_fields.specs.declared.refusal.FieldRefusal.TheVariants.{Short, Bad}
use Rattle.ep_fields.specs.Fields.{Position, ◌>>=◌, behind, byte_at, byte_field, byte_field_at, bytes_at, field_of, field_or_short, integer, integer_at, name_at, name_or_bad, number, number_at}
use Rattle.ep_fields.specs.Laws.{AreBytes, FieldLaws, IsReadAgain, IsSpelled, Stood}
use Rattle.ep_fields.proofs.public.Readings.{bind_ok, done, ok_is, short_name}

-- ---- steps of a reading

-- a test that did not fail
guard_ok : {A : Type 0} (b : Bool) (d : FieldRefusal) (x y : A) → cond b (Err d) (done x) ≡ Ok y → (b ≡ false) × (x ≡ y)
guard_ok true d x y e = absurd cc
guard_ok false d x y e = (refl, cc)

-- ---- bytes

bytes-drop : (n : ℕ) (bytes : List ℕ) → AreBytes bytes → AreBytes (drop n bytes)
bytes-drop n bytes h i = rw get_or-drop (h (n + i))

bytes-take : (n : ℕ) (bytes : List ℕ) → AreBytes bytes → AreBytes (take n bytes)
bytes-take n bytes h i =
    elim (cases_lt i n) [
      | inl lt ↦ rw (get_or-take n bytes i 0 lt) (h i)
      | inr le ↦ rw (get_or_past (take n bytes) i 0 (omega (arith, length-take n bytes))) (omega arith)
    ]

-- so many bytes that were read stood there
record Taken (p q : Position) (n : ℕ) (front : List ℕ) : Type 0 where
  bytes : p.rest ≡ front ++ q.rest
  place : q.place ≡ p.place + n
  many : length front ≡ n
  are : AreBytes front

taken : (n : ℕ) (p q : Position) (front : List ℕ) → AreBytes p.rest → bytes_at n p ≡ Ok (front, q) → Taken p q n front
taken n p q front fits e =
    let g = guard_ok (ltb (length p.rest) n) (Short p.place) (take n p.rest, behind n p) (front, q) e in
    let long : n ≤ length p.rest = ltb-false _ _ g.0 in
    let whole : Taken p (behind n p) n (take n p.rest) = record { bytes = sym (take-append-drop n p.rest); place = refl; many = omega (arith, length-take n p.rest); are = bytes-take n p.rest fits } in
    subst (λ (x : List ℕ × Position). Taken p x.1 n x.0) g.1 whole

bytes_again : (front rest : List ℕ) (place n : ℕ) → length front ≡ n
    → bytes_at n (record { place = place; rest = front ++ rest }) ≡ Ok (front, record { place = place + n; rest = rest })
bytes_again front rest place n is =
    let long : ltb (length (front ++ rest)) n ≡ false = le-ltb _ _ (omega (arith, is, length-append front rest)) in
    rw (long, take_at front rest n is, drop_at front rest n is) refl

-- ---- numbers

number_again : (n : ℕ) → n < 2 ^ 32 → IsReadAgain number_at (number n) n
unfolding number_at
number_again n lt place rest = rw (bytes_again (number n) rest place 4 refl, from_be_bytes-to_be_bytes_4 n lt) refl

byte_again : (b : ℕ) → b < 256 → IsReadAgain byte_at (b ∷ []) b
unfolding byte_at
byte_again b lt place rest = rw (bytes_again (b ∷ []) rest place 1 refl) refl

integer_again : (z : ℤ) → FitsSigned w64 z → IsReadAgain integer_at (integer z) z
unfolding integer_at
integer_again z fits place rest =
    let at : Position = record { place = place + 8; rest = rest } in
    rw (bytes_again (integer z) rest place 8 refl)
    (ap (λ n. done (cast_signed w64 n, at)) (from_be_bytes-to_be_bytes_8 (cast_unsigned w64 z) (Fits-lt-pow {w = w64} (Fits-of_z {w = w64} fits))) ∙ ap (λ y. done (y, at)) (to_z-of_z w64 z fits))

number_spelled : IsSpelled number_at number (λ n. n < 2 ^ 32)
unfolding number_at
number_spelled p q n fits e =
    let b = bind_ok (bytes_at 4 p) (λ x. Ok (from_be_bytes w32 x.0, x.1)) (n, q) e in
    let t = taken 4 p b.0.1 b.0.0 fits b.1 in
    subst (λ (x : ℕ × Position). Stood p x.1 (number x.0) × (x.0 < 2 ^ 32)) (ok_is _ _ b.2) (
      record { bytes = t.bytes ∙ ap (λ (f : List ℕ). f ++ b.0.1.rest) (sym (be_bytes_4 b.0.0 _ t.many t.are refl)); place = t.place },
      omega (arith, t.are 0, t.are 1, t.are 2, t.are 3),
    )

byte_spelled : IsSpelled byte_at (λ b. b ∷ []) (λ b. b < 256)
unfolding byte_at
byte_spelled p q n fits e =
    let b = bind_ok (bytes_at 1 p) (λ x. Ok (from_be_bytes w8 x.0, x.1)) (n, q) e in
    let t = taken 1 p b.0.1 b.0.0 fits b.1 in
    subst (λ (x : ℕ × Position). Stood p x.1 (x.0 ∷ []) × (x.0 < 256)) (ok_is _ _ b.2)
    (record { bytes = t.bytes ∙ ap (λ (f : List ℕ). f ++ b.0.1.rest) (one b.0.0 t.many); place = t.place }, t.are 0)
  where
    one : (front : List ℕ) → length front ≡ 1 → front ≡ from_be_bytes w8 front ∷ []
    one [] is = absurd cc
    one (x ∷ []) is = refl
    one (x ∷ y ∷ front) is = absurd cc

integer_spelled : IsSpelled integer_at integer (FitsSigned w64)
unfolding integer_at
integer_spelled p q n fits e =
    let b = bind_ok (bytes_at 8 p) (λ x. Ok (cast_signed w64 (from_be_bytes w64 x.0), x.1)) (n, q) e in
    let t = taken 8 p b.0.1 b.0.0 fits b.1 in
    let bits : from_be_bytes w64 b.0.0 < 2 ^ 64 = omega (arith, t.are 0, t.are 1, t.are 2, t.are 3, t.are 4, t.are 5, t.are 6, t.are 7) in
    let back : integer (cast_signed w64 (from_be_bytes w64 b.0.0)) ≡ b.0.0 = ap (to_be_bytes w64) (of_z-to_z w64 (from_be_bytes w64 b.0.0) bits) ∙ be_bytes_8 b.0.0 _ t.many t.are refl in
    subst (λ (x : ℤ × Position). Stood p x.1 (integer x.0) × FitsSigned w64 x.0) (ok_is _ _ b.2)
    (record { bytes = t.bytes ∙ ap (λ (f : List ℕ). f ++ b.0.1.rest) (sym back); place = t.place }, sfits_to_z {w = w64} (Fits-of_lt {w = w64} bits))

-- ---- byte fields

guard_some : {A : Type 0} (b : Bool) (o : Option A) (y : A) → cond b None o ≡ Some y → (b ≡ false) × (o ≡ Some y)
guard_some true o y e = absurd cc
guard_some false o y e = (refl, e)

some_is : {A : Type 0} (x y : A) → Some x ≡ Some y → x ≡ y
some_is x y e = cc

-- what a field that is all there is
record Whole (bytes text : List ℕ) : Type 0 where
  spelled : bytes ≡ byte_field text ++ drop (4 + length text) bytes
  short : length text < 2 ^ 32

whole : (bytes text : List ℕ) → AreBytes bytes → field_of bytes ≡ Some text → Whole bytes text
whole bytes text fits e =
    let n = from_be_bytes w32 (take 4 bytes) in
    let found = take n (drop 4 bytes) in
    let g = guard_some (ltb (length bytes) 4) (cond (ltb (length (drop 4 bytes)) n) None (Some found)) text e in
    let h = guard_some (ltb (length (drop 4 bytes)) n) (Some found) text g.1 in
    let four : 4 ≤ length bytes = ltb-false _ _ g.0 in
    let long : n ≤ length (drop 4 bytes) = ltb-false _ _ h.0 in
    let many : length found ≡ n = omega (arith, length-take n (drop 4 bytes)) in
    let are : AreBytes (take 4 bytes) = bytes-take 4 bytes fits in
    let count : number n ≡ take 4 bytes = be_bytes_4 (take 4 bytes) n (omega (arith, length-take 4 bytes)) are refl in
    let below : n < 2 ^ 32 = omega (arith, are 0, are 1, are 2, are 3) in
    let spelled : bytes ≡ (number n ++ found) ++ drop (4 + n) bytes =
    sym (take-append-drop 4 bytes)
    ∙ ap (λ (f : List ℕ). f ++ drop 4 bytes) (sym count)
    ∙ ap (λ (r : List ℕ). number n ++ r) (sym (take-append-drop n (drop 4 bytes)) ∙ ap (λ (r : List ℕ). found ++ r) (drop-drop n 4 bytes))
    ∙ sym (append_assoc (number n) found (drop (4 + n) bytes)) in
    let of_found : Whole bytes found =
    record { spelled = subst (λ k. bytes ≡ (number k ++ found) ++ drop (4 + k) bytes) (sym many) spelled; short = omega (arith, many, below) } in
    subst (Whole bytes) (some_is found text h.1) of_found

-- a count, and as many bytes behind it
parted : (front text rest : List ℕ) → length front ≡ 4 → from_be_bytes w32 front ≡ length text → field_of (front ++ (text ++ rest)) ≡ Some text
parted front text rest four is =
    rw (
      le-ltb (length (front ++ (text ++ rest))) 4 (omega (arith, four, length-append front (text ++ rest))),
      take_at front (text ++ rest) 4 four,
      drop_at front (text ++ rest) 4 four,
      is,
      le-ltb (length (text ++ rest)) (length text) (omega (arith, length-append text rest)),
      take_at text rest (length text) refl,
    )
    refl

field_again : (text rest : List ℕ) → length text < 2 ^ 32 → field_of (byte_field text ++ rest) ≡ Some text
field_again text rest short = parted (number (length text)) text rest refl (from_be_bytes-to_be_bytes_4 (length text) short)

abbrev position : ℕ → List ℕ → Position
position a r = record { place = a; rest = r }

position_is : (a b : ℕ) (r s : List ℕ) → a ≡ b → r ≡ s → position a r ≡ position b s
position_is a b r s e f = rw (e, f) refl

behind_field : (place : ℕ) (text rest : List ℕ)
    → behind (4 + length text) (record { place = place; rest = byte_field text ++ rest }) ≡ record { place = place + length (byte_field text); rest = rest }
behind_field place text rest = position_is _ _ _ _ (omega arith) (drop_at (byte_field text) rest (4 + length text) (omega arith))

byte_field_again : (text : List ℕ) → length text < 2 ^ 32 → IsReadAgain byte_field_at (byte_field text) text
byte_field_again text short place rest =
    ap (field_or_short (record { place = place; rest = byte_field text ++ rest })) (field_again text rest short)
    ∙ ap (λ p. done (text, p)) (behind_field place text rest)

name_again : (name : List ℕ) → is_name name ≡ true → IsReadAgain name_at (byte_field name) name
name_again name is place rest =
    let p : Position = record { place = place; rest = byte_field name ++ rest } in
    let q : Position = record { place = place + length (byte_field name); rest = rest } in
    ap (λ r. r >>= name_or_bad p) (byte_field_again name (short_name name is) place rest) ∙ ap (λ b. cond b (done (name, q)) (Err (Bad place))) is

byte_field_spelled : IsSpelled byte_field_at byte_field (λ text. length text < 2 ^ 32)
byte_field_spelled p q text fits e = by (field_of p.rest) refl e
  where
    by : (o : Option (List ℕ)) → field_of p.rest ≡ o → field_or_short p o ≡ Ok (text, q) → Stood p q (byte_field text) × (length text < 2 ^ 32)
    by None is f = absurd cc
    by (Some t) is f =
        let w = whole p.rest t fits is in
        subst (λ (x : List ℕ × Position). Stood p x.1 (byte_field x.0) × (length x.0 < 2 ^ 32)) (ok_is (t, behind (4 + length t) p) (text, q) f)
        (record { bytes = w.spelled; place = omega arith }, w.short)

guard_name : {A : Type 0} (b : Bool) (d : FieldRefusal) (x y : A) → cond b (done x) (Err d) ≡ Ok y → (b ≡ true) × (x ≡ y)
guard_name true d x y e = (refl, cc)
guard_name false d x y e = absurd cc

name_spelled : IsSpelled name_at byte_field (λ name. is_name name ≡ true)
name_spelled p q name fits e =
    let b = bind_ok (byte_field_at p) (name_or_bad p) (name, q) e in
    let g = guard_name (is_name b.0.0) (Bad p.place) b.0 (name, q) b.2 in
    subst (λ (x : List ℕ × Position). Stood p x.1 (byte_field x.0) × (is_name x.0 ≡ true)) g.1
    ((byte_field_spelled p b.0.1 b.0.0 fits b.1).0, g.0)

pub field_laws : FieldLaws
field_laws =
    record {
      bytes_again = byte_again;
      numbers_again = number_again;
      integers_again = integer_again;
      byte_fields_again = byte_field_again;
      names_again = name_again;
      bytes_spelled = byte_spelled;
      numbers_spelled = number_spelled;
      integers_spelled = integer_spelled;
      byte_fields_spelled = byte_field_spelled;
      names_spelled = name_spelled;
    }
