-- What ties the spelling of fields and their reading.
use Rattle.std.specs.Prelude.{◌≡◌, ℕ, ℤ, ◌+◌, ◌<◌, ◌^◌, true, List, [], ◌∷◌, ◌++◌, length, get_or, Ok}
use Rattle.std.specs.Prelude.{FitsSigned}
use Rattle.std.specs.Int.{w64}
use Rattle.ep_base.specs.Identifiers.{is_name}
use Rattle.ep_fields.specs.Fields.{Position, Reading, byte_at, byte_field, byte_field_at, integer, integer_at, name_at}
use Rattle.ep_fields.specs.Fields.{number, number_at}

-- numbers that are bytes
abbrev pub AreBytes : List ℕ → Type 0
AreBytes bytes = (i : ℕ) → get_or bytes i 0 < 256

-- What is spelled so is read, whatever follows it.
abbrev pub IsReadAgain : {A : Type 0} → (Position → Reading A) → List ℕ → A → Type 0
IsReadAgain read spelled x =
    (place : ℕ) (rest : List ℕ)
    → read (record { place = place; rest = spelled ++ rest })
    ≡ Ok (x, record { place = place + length spelled; rest = rest })

-- the field is spelled so, and stands between the two positions
pub record Stood (p q : Position) (spelled : List ℕ) : Type 0 where
  pub bytes : p.rest ≡ spelled ++ q.rest
  pub place : q.place ≡ p.place + length spelled

-- What is read is spelled so, and is what can be.
abbrev pub IsSpelled : {A : Type 0} → (Position → Reading A) → (A → List ℕ) → (A → Type 0) → Type 0
IsSpelled {A} read spelling Fits =
    (p q : Position) (x : A) → AreBytes p.rest → read p ≡ Ok (x, q) → Stood p q (spelling x) × Fits x

pub record FieldLaws : Type 0 where
  pub bytes_again : (b : ℕ) → b < 256 → IsReadAgain byte_at (b ∷ []) b
  pub numbers_again : (n : ℕ) → n < 2 ^ 32 → IsReadAgain number_at (number n) n
  pub integers_again : (z : ℤ) → FitsSigned w64 z → IsReadAgain integer_at (integer z) z
  pub byte_fields_again : (text : List ℕ) → length text < 2 ^ 32 → IsReadAgain byte_field_at (byte_field text) text
  pub names_again : (name : List ℕ) → is_name name ≡ true → IsReadAgain name_at (byte_field name) name
  pub bytes_spelled : IsSpelled byte_at (λ b. b ∷ []) (λ b. b < 256)
  pub numbers_spelled : IsSpelled number_at number (λ n. n < 2 ^ 32)
  pub integers_spelled : IsSpelled integer_at integer (FitsSigned w64)
  pub byte_fields_spelled : IsSpelled byte_field_at byte_field (λ text. length text < 2 ^ 32)
  pub names_spelled : IsSpelled name_at byte_field (λ name. is_name name ≡ true)
