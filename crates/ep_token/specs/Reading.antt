-- What the calls of this crate read at a place, as functions on lists.
use Rattle.std.specs.Prelude.{◌≡◌, ℕ, ◌+◌, ◌-◌, ◌*◌, pos, Bool, true, false, ◌&&◌, ◌||◌, ◌==◌}
use Rattle.std.specs.Prelude.{not, nat_lt, nat_le, if◌then◌else◌, List, [], ◌∷◌, length, take}
use Rattle.std.specs.Prelude.{drop, slice_index, position, Option, Some, None, Result, Ok, Err}
use Rattle.std.specs.List.{list_all, prefix_len}
use Rattle.std.specs.Char.{is_ascii_digit, is_ascii_alphabetic, is_ascii_alphanumeric}
use Rattle.ep_base.specs.Identifiers.{lower_case}
use Rattle.ep_token.specs.declared.token.TokenKind.{TokenKind}
use Rattle.ep_token.specs.declared.token.TokenKind.TheVariants.{Word, Id, Number, Str, Sym}
use Rattle.ep_token.specs.declared.refusal.TokenRefusal.{TokenRefusal}
use Rattle.ep_token.specs.declared.refusal.TokenRefusal.TheVariants.{NoToken, OpenComment, OpenString}
use Rattle.ep_token.specs.declared.refusal.TokenRefusal.TheVariants.{BadNumber, LongName, NoMemory}
use Rattle.ep_token.specs.Spellings.{place_of}
use Rattle.ep_token.specs.Words.{word_symbols}
use Rattle.ep_token.specs.Symbols.{special_symbols, reference_spelling}
use Rattle.ep_token.specs.Numbers.{maxint, is_digit_of, value_of, continues_number}
use Rattle.ep_token.specs.Comments.{opens_comment}
use Rattle.ep_token.specs.Tokens.{Piece, is_separator}
use Rattle.ep_token.specs.Bytes as byte
use Rattle.ep_base.specs.declared.name.TheConstants.{MAX_NAME}

-- What a call returned is what reading gives, unless memory ran out.
abbrev pub Fails : {X : Type 0} → TokenRefusal → Result X TokenRefusal → Type 0
Fails NoMemory read = Unit {0}
Fails (NoToken line) read = read ≡ Err (NoToken line)
Fails (OpenComment line) read = read ≡ Err (OpenComment line)
Fails (OpenString line) read = read ≡ Err (OpenString line)
Fails (BadNumber line) read = read ≡ Err (BadNumber line)
Fails (LongName line) read = read ≡ Err (LongName line)

-- the same, with the value
abbrev pub Gives : {X : Type 0} → Result X TokenRefusal → Result X TokenRefusal → Type 0
Gives (Ok x) read = read ≡ Ok x
Gives (Err refusal) read = Fails refusal read

-- the end of the longest identifier: of the bytes before i the first end are one,
-- and an underscore may stand behind them
unfoldable pub name_end : Bool → ℕ → ℕ → List ℕ → ℕ
name_end underscore end i [] = end
name_end underscore end i (b ∷ bs) =
    if is_ascii_alphanumeric b then name_end false (i + 1) (i + 1) bs
    else if (b == byte.underscore && not underscore) then name_end true end (i + 1) bs
    else end

-- the end of the longest character string that has begun: after i bytes it is open, or closed there
unfoldable pub string_end : Bool → Option ℕ → ℕ → List ℕ → Option ℕ
string_end is_open end i [] = end
string_end true end i (b ∷ bs) =
    if b == byte.line_feed then end
    else if b == byte.quote then string_end false (Some (i + 1)) (i + 1) bs
    else string_end true end (i + 1) bs
string_end false end i (b ∷ bs) = if b == byte.quote then string_end true end (i + 1) bs else end

-- the bytes that a character string stands for, from those between its quotes
unfoldable pub undoubled : Bool → List ℕ → List ℕ
undoubled after_quote [] = []
undoubled after_quote (b ∷ bs) =
    if (b == byte.quote && after_quote) then undoubled false bs else b ∷ undoubled (b == byte.quote) bs

-- the end of a comment that has begun
unfoldable pub comment_end : Bool → ℕ → List ℕ → Option ℕ
comment_end after_star i [] = None
comment_end after_star i (b ∷ bs) =
    if (b == byte.right_brace || (b == byte.right_parenthesis && after_star)) then Some (i + 1)
    else comment_end (b == byte.star) (i + 1) bs

-- the value of digits of a radix, of at most maxint
unfoldable pub numeral : ℕ → List ℕ → Option ℕ
numeral radix [] = None
numeral radix (b ∷ bs) =
    if (list_all (is_digit_of radix) (b ∷ bs) && nat_le (value_of radix (b ∷ bs)) maxint)
    then Some (value_of radix (b ∷ bs))
    else None

-- the value of digits, if the radix is from 2 to 36
abbrev pub in_radix : Option ℕ → List ℕ → Option ℕ
in_radix None digits = None
in_radix (Some radix) digits = if (nat_le 2 radix && nat_le radix 36) then numeral radix digits else None

-- the value of a number, from where its `#` stands
abbrev pub split_number : Option ℕ → List ℕ → Option ℕ
split_number None text = numeral 10 text
split_number (Some mark) text = in_radix (numeral 10 (take mark text)) (drop (mark + 1) text)

-- the value of a number
unfoldable pub number_value : List ℕ → Option ℕ
number_value text = split_number (position (λ b. b == byte.number_sign) text) text

-- a comment, from the length of its opening mark and the end of the rest
abbrev pub comment_found : ℕ → ℕ → Option ℕ → Result Piece TokenRefusal
comment_found line opener None = Err (OpenComment line)
comment_found line opener (Some n) = Ok (opener + n, None)

-- the comment at the front
unfoldable pub comment_at : ℕ → List ℕ → Result Piece TokenRefusal
comment_at line bytes =
    if slice_index bytes 0 == byte.left_brace then comment_found line 1 (comment_end false 0 (drop 1 bytes))
    else comment_found line 2 (comment_end false 0 (drop 2 bytes))

-- a character string, from the end of the rest
abbrev pub string_found : ℕ → List ℕ → Option ℕ → Result Piece TokenRefusal
string_found line text None = Err (OpenString line)
string_found line text (Some n) = Ok (n + 1, Some (Str (undoubled false (take (n - 1) text))))

-- the character string at the front
unfoldable pub string_at : ℕ → List ℕ → Result Piece TokenRefusal
string_at line bytes = string_found line (drop 1 bytes) (string_end true None 0 (drop 1 bytes))

-- a number, from its end and its value
abbrev pub number_found : ℕ → ℕ → Option ℕ → Result Piece TokenRefusal
number_found line n None = Err (BadNumber line)
number_found line n (Some value) = Ok (n, Some (Number (pos value)))

-- the number at the front
unfoldable pub number_at : ℕ → List ℕ → Result Piece TokenRefusal
number_at line bytes =
    number_found line (prefix_len continues_number bytes)
    (number_value (take (prefix_len continues_number bytes) bytes))

-- a word symbol, if it is one, and else an identifier
abbrev pub name_kind : Option ℕ → List ℕ → TokenKind
name_kind None name = Id name
name_kind (Some word) name = Word word

-- an identifier or word symbol, from its end
abbrev pub name_found : ℕ → ℕ → List ℕ → Result Piece TokenRefusal
name_found line n text =
    if nat_lt MAX_NAME n then Err (LongName line)
    else Ok (n, Some (name_kind (place_of word_symbols (lower_case text)) (lower_case text)))

-- the identifier or word symbol at the front
unfoldable pub name_at : ℕ → List ℕ → Result Piece TokenRefusal
name_at line bytes = name_found line (name_end true 0 0 bytes) (take (name_end true 0 0 bytes) bytes)

-- the symbol that a text stands for
abbrev pub symbol_of : List ℕ → Option ℕ
symbol_of text = place_of special_symbols (reference_spelling text)

-- a symbol of one byte
abbrev pub short_symbol : ℕ → Option ℕ → Result Piece TokenRefusal
short_symbol line None = Err (NoToken line)
short_symbol line (Some symbol) = Ok (1, Some (Sym symbol))

-- a symbol of two bytes, and else of one
abbrev pub long_symbol : ℕ → List ℕ → Option ℕ → Result Piece TokenRefusal
long_symbol line bytes None = short_symbol line (symbol_of (take 1 bytes))
long_symbol line bytes (Some symbol) = Ok (2, Some (Sym symbol))

-- the symbol at the front
unfoldable pub symbol_at : ℕ → List ℕ → Result Piece TokenRefusal
symbol_at line bytes =
    if nat_le 2 (length bytes) then long_symbol line bytes (symbol_of (take 2 bytes))
    else short_symbol line (symbol_of (take 1 bytes))

-- the piece at the front, or why there is none
unfoldable pub piece_at : ℕ → List ℕ → Result Piece TokenRefusal
piece_at line bytes =
    if is_separator (slice_index bytes 0) then Ok (1, None)
    else if opens_comment bytes then comment_at line bytes
    else if slice_index bytes 0 == byte.quote then string_at line bytes
    else if is_ascii_digit (slice_index bytes 0) then number_at line bytes
    else if is_ascii_alphabetic (slice_index bytes 0) then name_at line bytes
    else symbol_at line bytes

-- the value of digits with one more
abbrev pub appended : ℕ → ℕ → ℕ → Option ℕ
appended radix value digit = if nat_le (value * radix + digit) maxint then Some (value * radix + digit) else None
