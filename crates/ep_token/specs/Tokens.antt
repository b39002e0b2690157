-- The tokens of a source text (ISO 10206, 6.1), and where a text has none.
use Rattle.std.specs.Prelude.{◌≡◌, ℕ, suc, ◌+◌, ◌<◌, ◌≤◌, pos, Bool, true, false, ◌||◌, ◌==◌, List, []}
use Rattle.std.specs.Prelude.{◌∷◌, ◌++◌, length, take, drop, map, count_by, Option, Some, None, ◌⊎◌}
use Rattle.std.specs.Option.{option_to_list}
use Rattle.std.specs.Char.{is_ascii_digit}
use Rattle.ep_base.specs.Identifiers.{is_identifier, lower_case}
use Rattle.ep_token.specs.declared.token.Token.{Token}
use Rattle.ep_token.specs.declared.token.TokenKind.{TokenKind}
use Rattle.ep_token.specs.declared.token.TokenKind.TheVariants.{Word, Id, Number, Str, Sym}
use Rattle.ep_token.specs.declared.refusal.TokenRefusal.{TokenRefusal}
use Rattle.ep_token.specs.declared.refusal.TokenRefusal.TheVariants.{NoToken, OpenComment, OpenString}
use Rattle.ep_token.specs.declared.refusal.TokenRefusal.TheVariants.{BadNumber, LongName, NoMemory}
use Rattle.ep_token.specs.Spellings.{place_of}
use Rattle.ep_token.specs.Words.{word_symbols}
use Rattle.ep_token.specs.Symbols.{special_symbols, reference_spelling}
use Rattle.ep_token.specs.Numbers.{IsNumber, continues_number}
use Rattle.ep_token.specs.Strings.{IsString}
use Rattle.ep_token.specs.Comments.{IsComment, opens_comment}
use Rattle.ep_token.specs.Bytes as byte
use Rattle.ep_base.specs.declared.name.TheConstants.{MAX_NAME}

-- tab, line feed, carriage return and space separate tokens (own rule)
unfoldable pub is_separator : ℕ → Bool
is_separator b = (b == byte.tab || b == byte.line_feed) || (b == byte.carriage_return || b == byte.blank)

-- one separating byte
abbrev pub IsSeparator : List ℕ → Type 0
IsSeparator text = (b : ℕ) × (text ≡ b ∷ []) × (is_separator b ≡ true)

-- what a text stands for: a token of a kind, or no token, which is a separating byte or a comment
abbrev pub IsSpelled : List ℕ → Option TokenKind → Type 0
IsSpelled text None = IsSeparator text ⊎ IsComment text
IsSpelled text (Some (Word word)) = (is_identifier text ≡ true) × (place_of word_symbols (lower_case text) ≡ Some word)
IsSpelled text (Some (Id name)) =
    (is_identifier text ≡ true) × (length text ≤ MAX_NAME)
    × (place_of word_symbols (lower_case text) ≡ None) × (name ≡ lower_case text)
IsSpelled text (Some (Number value)) = (n : ℕ) × IsNumber text n × (value ≡ pos n)
IsSpelled text (Some (Str bytes)) = IsString text bytes
IsSpelled text (Some (Sym symbol)) = place_of special_symbols (reference_spelling text) ≡ Some symbol

-- whether the first byte passes a test
abbrev pub begins : (ℕ → Bool) → List ℕ → Bool
begins test [] = false
begins test (b ∷ bs) = test b

-- no longer identifier begins where the text does
abbrev pub IsLongestName : List ℕ → List ℕ → Type 0
IsLongestName text rest =
    (more after : List ℕ) → rest ≡ more ++ after → is_identifier (text ++ more) ≡ true → more ≡ []

-- what may stand behind a text that is taken so
abbrev pub MayPrecede : List ℕ → Option TokenKind → List ℕ → Type 0
MayPrecede text None rest = Unit {0}
MayPrecede text (Some (Word word)) rest = IsLongestName text rest
MayPrecede text (Some (Id name)) rest = IsLongestName text rest
MayPrecede text (Some (Number value)) rest = begins continues_number rest ≡ false
MayPrecede text (Some (Str bytes)) rest = Unit {0}
MayPrecede text (Some (Sym symbol)) rest =
    text ≡ byte.left_parenthesis ∷ [] → begins (λ b. b == byte.star) rest ≡ false

-- the first n bytes can be taken so
pub record CanBeTaken (bytes : List ℕ) (n : ℕ) (kind : Option TokenKind) : Type 0 where
  pub within : n ≤ length bytes
  pub spelled : IsSpelled (take n bytes) kind
  pub ends : MayPrecede (take n bytes) kind (drop n bytes)

-- the first n bytes can be taken so, and no longer text can be taken in any way
pub record IsTaken (bytes : List ℕ) (n : ℕ) (kind : Option TokenKind) : Type 0 where
  pub can : CanBeTaken bytes n kind
  pub longest : (m : ℕ) (other : Option TokenKind) → CanBeTaken bytes m other → m ≤ n

-- the number of bytes of a piece, and its kind where it is a token
abbrev pub Piece : Type 0
Piece = ℕ × Option TokenKind

-- the bytes are these pieces, each the longest that can be taken at its place, and then the rest
abbrev pub AreTaken : List ℕ → List Piece → List ℕ → Type 0
AreTaken bytes [] rest = bytes ≡ rest
AreTaken bytes (piece ∷ pieces) rest = IsTaken bytes piece.0 piece.1 × AreTaken (drop piece.0 bytes) pieces rest

-- the line of a place: a line ends with a line feed, and lines are counted from 1
abbrev pub line_at : List ℕ → ℕ → ℕ
line_at bytes place = suc (count_by (λ b. b == byte.line_feed) (take place bytes))

-- a token as the code has it
abbrev pub token_of : ℕ → ℕ → ℕ → TokenKind → Token
token_of line start end kind = record { kind = kind; line = line; start = start; end = end }

-- the token of the n bytes from a place on
abbrev pub token_at : List ℕ → ℕ → ℕ → TokenKind → Token
token_at bytes start n kind = token_of (line_at bytes start) start (start + n) kind

-- the tokens among pieces, of which the first begins at a place
abbrev pub tokens_of : List ℕ → ℕ → List Piece → List Token
tokens_of bytes place [] = []
tokens_of bytes place (piece ∷ pieces) =
    map (token_at bytes place piece.0) (option_to_list piece.1) ++ tokens_of bytes (place + piece.0) pieces

-- the whole text is a row of pieces, and these are its tokens
pub record Tokens (bytes : List ℕ) (list : List Token) : Type 0 where
  pub pieces : List Piece
  pub taken : AreTaken bytes pieces []
  pub list_is : list ≡ tokens_of bytes 0 pieces

-- an identifier of more than 255 bytes begins here
abbrev pub BeginsLongName : List ℕ → Type 0
BeginsLongName bytes = (n : ℕ) × (MAX_NAME < n) × (n ≤ length bytes) × (is_identifier (take n bytes) ≡ true)

-- what a place on a line where nothing can be taken is refused with, by what stands there
abbrev pub HasCause : List ℕ → ℕ → TokenRefusal → Type 0
HasCause bytes line (OpenComment at) = (at ≡ line) × (opens_comment bytes ≡ true)
HasCause bytes line (OpenString at) = (at ≡ line) × (begins (λ b. b == byte.quote) bytes ≡ true)
HasCause bytes line (BadNumber at) = (at ≡ line) × (begins is_ascii_digit bytes ≡ true)
HasCause bytes line (LongName at) = (at ≡ line) × BeginsLongName bytes
HasCause bytes line (NoToken at) =
    (at ≡ line) × (opens_comment bytes ≡ false) × (begins (λ b. b == byte.quote) bytes ≡ false)
    × (begins is_ascii_digit bytes ≡ false) × (BeginsLongName bytes → ⊥)
HasCause bytes line NoMemory = ⊥

-- the bytes before the place are pieces, each the longest at its place, and none can be taken at the place
pub record Stuck (bytes : List ℕ) (place : ℕ) (refusal : TokenRefusal) : Type 0 where
  pub pieces : List Piece
  pub before : AreTaken bytes pieces (drop place bytes)
  pub within : place < length bytes
  pub none : (n : ℕ) (kind : Option TokenKind) → CanBeTaken (drop place bytes) n kind → ⊥
  pub cause : HasCause (drop place bytes) (line_at bytes place) refusal

-- the tokens lie in this order between two places, each of at least one byte
abbrev pub AreInOrder : ℕ → List Token → ℕ → Type 0
AreInOrder from [] to = from ≤ to
AreInOrder from (token ∷ tokens) to = (from ≤ token.start) × (token.start < token.end) × AreInOrder token.end tokens to
