-- How fields are spelled, and how they are read from left to right. Numbers are big-endian, those with a sign in two's
-- complement; a byte field is a count of four bytes and so many bytes; a name is a byte field that holds an identifier
-- in lower case.
use Rattle.std.specs.Prelude.{◌≡◌, ℕ, ℤ, ◌+◌, List, ◌++◌, length, take, drop, Option, Some, None, Result, Ok, Err}
use Rattle.std.specs.Prelude.{nat_lt, if◌then◌else◌}
use Rattle.std.specs.Int.{w8, w32, w64, from_be_bytes, to_be_bytes, cast_signed, cast_unsigned}
use Rattle.ep_base.specs.Identifiers.{is_name}
use Rattle.ep_fields.specs.declared.refusal.FieldRefusal.{FieldRefusal}
use Rattle.ep_fields.specs.declared.refusal.FieldRefusal.TheVariants.{Short, Bad, NoMemory}

-- ---- spelling

-- a number of four bytes
abbrev pub number : ℕ → List ℕ
number n = to_be_bytes w32 n

-- a number with a sign, of eight bytes
abbrev pub integer : ℤ → List ℕ
integer z = to_be_bytes w64 (cast_unsigned w64 z)

-- a byte field
abbrev pub byte_field : List ℕ → List ℕ
byte_field bytes = number (length bytes) ++ bytes

-- ---- reading

-- where a reader stands: the place, counted from 0, and the bytes that are left
pub record Position : Type 0 where
  pub place : ℕ
  pub rest : List ℕ

-- behind so many bytes
abbrev pub behind : ℕ → Position → Position
behind n p = record { place = p.place + n; rest = drop n p.rest }

-- what is read, and where the reader then stands, or why nothing is
abbrev pub Reading : Type 0 → Type 0
Reading A = Result (A × Position) FieldRefusal

-- one reading after another
infixl 10 ◌>>=◌
abbrev pub ◌>>=◌ : {A B : Type 0} → Result A FieldRefusal → (A → Result B FieldRefusal) → Result B FieldRefusal
(Ok x) >>= f = f x
(Err e) >>= f = Err e

-- so many bytes
abbrev pub bytes_at : ℕ → Position → Reading (List ℕ)
bytes_at n p = if nat_lt (length p.rest) n then Err (Short p.place) else Ok (take n p.rest, behind n p)

-- a byte
unfoldable pub byte_at : Position → Reading ℕ
byte_at p = do
  x ← bytes_at 1 p
  Ok (from_be_bytes w8 x.0, x.1)

unfoldable pub number_at : Position → Reading ℕ
number_at p = do
  x ← bytes_at 4 p
  Ok (from_be_bytes w32 x.0, x.1)

unfoldable pub integer_at : Position → Reading ℤ
integer_at p = do
  x ← bytes_at 8 p
  Ok (cast_signed w64 (from_be_bytes w64 x.0), x.1)

-- the bytes of the byte field at the front, where all of it is there
abbrev pub field_of : List ℕ → Option (List ℕ)
field_of bytes =
    if nat_lt (length bytes) 4 then None
    else if nat_lt (length (drop 4 bytes)) (from_be_bytes w32 (take 4 bytes)) then None
    else Some (take (from_be_bytes w32 (take 4 bytes)) (drop 4 bytes))

-- where it is not all there it is refused as a whole
abbrev pub field_or_short : Position → Option (List ℕ) → Reading (List ℕ)
field_or_short p None = Err (Short p.place)
field_or_short p (Some text) = Ok (text, behind (4 + length text) p)

abbrev pub byte_field_at : Position → Reading (List ℕ)
byte_field_at p = field_or_short p (field_of p.rest)

abbrev pub name_or_bad : Position → List ℕ × Position → Reading (List ℕ)
name_or_bad p x = if is_name x.0 then Ok x else Err (Bad p.place)

abbrev pub name_at : Position → Reading (List ℕ)
name_at p = byte_field_at p >>= name_or_bad p

-- ---- what a call on a reader does

-- What was answered is what reading gives; without an answer the reader stands where it stood.
abbrev pub Reads : {X Y : Type 0} → (X → Y) → Result X FieldRefusal → Position → Position → Reading Y → Type 0
Reads view (Ok x) old new reading = reading ≡ Ok (view x, new)
Reads view (Err NoMemory) old new reading = new ≡ old
Reads view (Err (Short place)) old new reading = (reading ≡ Err (Short place)) × (new ≡ old)
Reads view (Err (Bad place)) old new reading = (reading ≡ Err (Bad place)) × (new ≡ old)
