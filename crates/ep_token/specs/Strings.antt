-- What a character string is, and the bytes that it stands for.
use Rattle.std.specs.Prelude.{◌≡◌, ◌≢◌, ℕ, ◌==◌, if◌then◌else◌, List, [], ◌∷◌, ◌++◌, All}
use Rattle.std.specs.List.{flat_map}
use Rattle.ep_token.specs.Bytes as byte

-- a byte as it stands in a character string: a quote is written twice (ISO 10206, 6.1.9)
unfoldable pub string_element : ℕ → List ℕ
string_element b = if b == byte.quote then byte.quote ∷ byte.quote ∷ [] else b ∷ []

-- bytes between quotes, on one line: any byte but a line feed may stand there (ISO 10206, 6.1.9; own rule)
pub record IsString (text bytes : List ℕ) : Type 0 where
  pub text_is : text ≡ byte.quote ∷ (flat_map string_element bytes ++ byte.quote ∷ [])
  pub one_line : All (λ b. b ≢ byte.line_feed) bytes
