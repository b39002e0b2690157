-- Lists and flags in files: how they are spelled, and how they are read from left to right. A list is the number of
-- its items and these, one behind the other; a flag is a byte 0 or 1. A file is of one format from its first byte to
-- its last.
use Rattle.std.specs.Prelude.{◌≡◌, ℕ, zero, suc, ◌<◌, ◌^◌, ◌==◌, Bool, true, false, if◌then◌else◌}
use Rattle.std.specs.Prelude.{List, [], ◌∷◌, ◌++◌, length, Result, Ok, Err}
use Rattle.std.specs.List.{flat_map, AllByRecursion}
use Rattle.ep_fields.specs.Fields.{Position, Reading, ◌>>=◌, byte_at, number, number_at}
use Rattle.ep_fields.specs.declared.refusal.FieldRefusal.{FieldRefusal}
use Rattle.ep_fields.specs.declared.refusal.FieldRefusal.TheVariants.{Short, Bad, NoMemory}
use Rattle.ep_iface.specs.declared.refusal.FileRefusal.{FileRefusal}
use Rattle.ep_iface.specs.declared.refusal.FileRefusal.TheVariants as refused

-- ---- spelling

-- a list: the number of its items, and these
abbrev pub listed : {A : Type 0} → (A → List ℕ) → List A → List ℕ
listed spelling xs = number (length xs) ++ flat_map spelling xs

-- a list can be spelled where its count is a number of four bytes and each item can be
abbrev pub AreListed : {A : Type 0} → (A → Type 0) → List A → Type 0
AreListed Fits xs = (length xs < 2 ^ 32) × AllByRecursion Fits xs

-- a flag
abbrev pub flag : Bool → List ℕ
flag false = 0 ∷ []
flag true = 1 ∷ []

-- ---- reading

-- so many items
unfoldable pub items_at : {A : Type 0} → (Position → Reading A) → ℕ → Position → Reading (List A)
items_at item zero p = Ok ([], p)
items_at item (suc n) p = do
  x ← item p
  xs ← items_at item n x.1
  Ok (x.0 ∷ xs.0, xs.1)

-- A list. Its count is a field of its own; an item that is missing is refused at the first field that is.
unfoldable pub list_at : {A : Type 0} → (Position → Reading A) → Position → Reading (List A)
list_at item p = do
  n ← number_at p
  items_at item n.0 n.1

-- a byte that is 0 or 1
abbrev pub flag_or_bad : ℕ → ℕ × Position → Reading Bool
flag_or_bad place x =
    if x.0 == 0 then Ok (false, x.1)
    else if x.0 == 1 then Ok (true, x.1)
    else Err (Bad place)

unfoldable pub flag_at : Position → Reading Bool
flag_at p = do
  x ← byte_at p
  flag_or_bad p.place x

-- the four letters with which a file begins, which are one field, as a number
abbrev pub letters_or_bad : ℕ → ℕ → ℕ × Position → Reading (Unit {0})
letters_or_bad place letters x = if x.0 == letters then Ok (tt, x.1) else Err (Bad place)

unfoldable pub letters_at : ℕ → Position → Reading (Unit {0})
letters_at letters p = do
  x ← number_at p
  letters_or_bad p.place letters x

-- nothing follows: a byte too many is refused at its place
abbrev pub ended : {A : Type 0} → A × Position → Result A FieldRefusal
ended x = if length x.1.rest == 0 then Ok x.0 else Err (Bad x.1.place)

-- all bytes of a file
abbrev pub whole : {A : Type 0} → (Position → Reading A) → List ℕ → Result A FieldRefusal
whole read bytes = read (record { place = 0; rest = bytes }) >>= ended

-- ---- what calls give

-- What was answered is what reading gives there, unless memory ran out.
abbrev pub Gives : {A : Type 0} → Result A FieldRefusal → Position → Reading A → Type 0
Gives (Ok x) new reading = reading ≡ Ok (x, new)
Gives (Err NoMemory) new reading = Unit {0}
Gives (Err (Short place)) new reading = reading ≡ Err (Short place)
Gives (Err (Bad place)) new reading = reading ≡ Err (Bad place)

-- what is refused of a file where this is refused of a field
abbrev pub of_file : FieldRefusal → FileRefusal
of_file (Short place) = refused.Bad place
of_file (Bad place) = refused.Bad place
of_file NoMemory = refused.NoMemory

-- the place of the first field that cannot be read or is not allowed, or of the first byte too many
abbrev pub IsBadAt : {A : Type 0} → ℕ → Result A FieldRefusal → Type 0
IsBadAt place (Ok x) = ⊥
IsBadAt place (Err NoMemory) = ⊥
IsBadAt place (Err (Short at)) = place ≡ at
IsBadAt place (Err (Bad at)) = place ≡ at

-- What reading a file answers: what all of its bytes spell, or where the first of them is that cannot be so, unless
-- memory ran out.
abbrev pub Tells : {A : Type 0} → Result A FileRefusal → Result A FieldRefusal → Type 0
Tells (Ok x) reading = reading ≡ Ok x
Tells (Err refused.NoMemory) reading = Unit {0}
Tells (Err (refused.Bad place)) reading = IsBadAt place reading
