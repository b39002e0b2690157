-- The pieces of a source text: its tokens and comments in order, without what the text may be written otherwise in.
use Rattle.std.specs.Prelude.{◌≡◌, ℕ, ◌-◌, ◌==◌, ◌||◌, Bool, false, if◌then◌else◌, List, [], ◌∷◌, ◌++◌, length}
use Rattle.std.specs.Prelude.{take, drop}
use Rattle.std.specs.Prelude.{slice_index, map, Option, Some, None, Result, Ok, Err}
use Rattle.std.specs.Option.{option_to_list}
use Rattle.ep_base.specs.Identifiers.{lower_case}
use Rattle.ep_token.specs.declared.token.Token.{Token}
use Rattle.ep_token.specs.declared.token.TokenKind.{TokenKind}
use Rattle.ep_token.specs.declared.token.TokenKind.TheVariants.{Word, Id, Number, Str, Sym}
use Rattle.ep_token.specs.Bytes as byte
use Rattle.ep_token.specs.Comments.{opens_comment}
use Rattle.ep_token.specs.Symbols.{reference_spelling}
use Rattle.ep_token.specs.Tokens.{AreTaken, Tokens}
use Rattle.ep_token.specs.Tokens.{Piece as Taken}
use Rattle.ep_token.specs.Reading.{piece_at as read_at}
use Rattle.ep_token.specs.declared.refusal.TokenRefusal.{TokenRefusal}
use Rattle.ep_pieces.specs.declared.piece.Piece.{Piece}
use Rattle.ep_pieces.specs.declared.kind.TheConstants as kind

abbrev pub piece : ℕ → List ℕ → Piece
piece kind text = record { kind = kind; text = text }

-- the piece of a token, from its bytes: letters are in lower case outside of strings, and a symbol has its first
-- spelling
abbrev pub token_piece : List ℕ → TokenKind → Piece
token_piece text (Word w) = piece kind.WORD (lower_case text)
token_piece text (Id n) = piece kind.IDENTIFIER (lower_case text)
token_piece text (Number n) = piece kind.NUMBER (lower_case text)
token_piece text (Str s) = piece kind.STRING text
token_piece text (Sym s) = piece kind.SYMBOL (reference_spelling text)

-- whether a mark that opens a comment begins with a byte
abbrev pub begins_mark : ℕ → Bool
begins_mark b = b == byte.left_brace || b == byte.left_parenthesis

-- how many bytes a mark has that opens a comment
abbrev pub opener_length : List ℕ → ℕ
opener_length text = if slice_index text 0 == byte.left_brace then 1 else 2

-- how many bytes a mark has that closes a comment
abbrev pub closer_length : List ℕ → ℕ
closer_length text = if slice_index text (length text - 1) == byte.right_brace then 1 else 2

-- the bytes of a comment between its marks
abbrev pub comment_body : List ℕ → List ℕ
comment_body text = take (length text - opener_length text - closer_length text) (drop (opener_length text) text)

abbrev pub comment_piece : List ℕ → Piece
comment_piece text = piece kind.COMMENT (comment_body text)

-- the piece that a row of bytes is, if it is no separating byte
abbrev pub piece_of : List ℕ → Option TokenKind → Option Piece
piece_of text (Some k) = Some (token_piece text k)
piece_of text None = if opens_comment text then Some (comment_piece text) else None

-- the pieces of a row of what is taken
abbrev pub pieces_of : List ℕ → List Taken → List Piece
pieces_of bytes [] = []
pieces_of bytes (p ∷ ps) = option_to_list (piece_of (take p.0 bytes) p.1) ++ pieces_of (drop p.0 bytes) ps

-- the whole text is a row of what is longest at its place, and these are its pieces
pub record Pieces (bytes : List ℕ) (list : List Piece) : Type 0 where
  pub row : List Taken
  pub taken : AreTaken bytes row []
  pub list_is : list ≡ pieces_of bytes row

-- the bytes of a piece as they are written
abbrev pub written : Piece → List ℕ
written p = if p.kind == kind.COMMENT then byte.left_brace ∷ (p.text ++ byte.right_brace ∷ []) else p.text

-- a piece in bytes of its own
abbrev pub is_comment : Piece → Bool
is_comment p = p.kind == kind.COMMENT

-- the pieces that are no comments
abbrev pub without_comments : List Piece → List Piece
without_comments [] = []
without_comments (p ∷ ps) = if is_comment p then without_comments ps else p ∷ without_comments ps

-- the piece of a token of a text
abbrev pub piece_at : List ℕ → Token → Piece
piece_at bytes t = token_piece (take (t.end - t.start) (drop t.start bytes)) t.kind

-- without its comments a text is its tokens
abbrev pub TokensArePieces : Type 0
TokensArePieces =
    (bytes : List ℕ) (tokens : List Token) (pieces : List Piece) → Tokens bytes tokens → Pieces bytes pieces →
    without_comments pieces ≡ map (piece_at bytes) tokens

-- whether the first of some tokens starts at a place
abbrev pub starts_at : ℕ → List Token → Bool
starts_at place [] = false
starts_at place (t ∷ ts) = t.start == place

-- a text has one list of pieces
abbrev pub OneListOfPieces : Type 0
OneListOfPieces = (bytes : List ℕ) (list other : List Piece) → Pieces bytes list → Pieces bytes other → list ≡ other

-- the kind of what is read, if it is a token
abbrev pub kind_read : Result Taken TokenRefusal → Option TokenKind
kind_read (Ok p) = p.1
kind_read (Err e) = None

-- the kind of the token that a piece spells
abbrev pub kind_of : Piece → Option TokenKind
kind_of p = kind_read (read_at 1 p.text)

abbrev pub token_kind : Token → Option TokenKind
token_kind t = Some t.kind

-- The pieces of a text tell the kinds of its tokens.
abbrev pub KindsArePieces : Type 0
KindsArePieces =
    (bytes : List ℕ) (tokens : List Token) (pieces : List Piece) → Tokens bytes tokens → Pieces bytes pieces →
    map kind_of (without_comments pieces) ≡ map token_kind tokens
