-- The layout of pieces: the one text that they are written as.
use Rattle.std.specs.Prelude.{◌≡◌, ℕ, zero, suc, ◌+◌, ◌*◌, Bool, true, false, ◌&&◌, ◌||◌, ◌==◌, nat_lt, replicate}
use Rattle.std.specs.Prelude.{if◌then◌else◌, List, [], ◌∷◌, ◌++◌, length, map, Option, Some, None, codes}
use Rattle.ep_token.specs.Bytes as byte
use Rattle.ep_token.specs.Tokens.{Tokens}
use Rattle.ep_token.specs.declared.token.Token.{Token}
use Rattle.ep_token.specs.declared.token.TokenKind.{TokenKind}
use Rattle.ep_token.specs.declared.token.TokenKind.TheVariants.{Sym}
use Rattle.ep_grammar.specs.declared.stop.TheConstants.{MAX_NESTING}
use Rattle.ep_marks.specs.Marks.{no_mark}
use Rattle.ep_marks.specs.declared.mark.Mark.{Mark}
use Rattle.ep_marks.specs.Texts.{text_marks}
use Rattle.ep_pieces.specs.declared.piece.Piece.{Piece}
use Rattle.ep_pieces.specs.declared.kind.TheConstants as kind
use Rattle.ep_pieces.specs.Pieces.{Pieces, written, is_comment, without_comments, kind_of}
use Rattle.ep_pieces.specs.Joining.{joined, opens, closes, is_symbol, spaced}

-- the greatest number of bytes of a line in which a group is not broken
abbrev pub line_width : ℕ
line_width = 78

-- ---- the marks of pieces

-- the kind of the token that a piece spells; a comment spells none
abbrev pub known : Option TokenKind → TokenKind
known None = Sym 0
known (Some k) = k

-- the tokens that pieces spell, at no place
abbrev pub tokens_of : List Piece → List Token
tokens_of [] = []
tokens_of (p ∷ ps) = record { kind = known (kind_of p); line = 0; start = 0; end = 0 } ∷ tokens_of ps

-- a piece with its mark, where it is a token
abbrev pub Item : Type 0
Item = Piece × Option Mark

-- pieces with their marks, of which there is one for each token
abbrev pub items : List Piece → List Mark → List Item
items [] ms = []
items (p ∷ ps) [] = (p, if is_comment p then None else Some no_mark) ∷ items ps []
items (p ∷ ps) (m ∷ ms) = if is_comment p then (p, None) ∷ items ps (m ∷ ms) else (p, Some m) ∷ items ps ms

-- ---- groups

-- the bytes between two pieces of one line
abbrev pub gap_width : Piece → Piece → ℕ
gap_width p q = if joined p q then 0 else 1

-- how many groups are open behind a piece, inside a group in which so many were; None, where it closes that group
abbrev pub open_behind : ℕ → Piece → Option ℕ
open_behind zero q = if closes q then None else (if opens q then Some 1 else Some 0)
open_behind (suc n) q = if closes q then Some n else (if opens q then Some (suc (suc n)) else Some (suc n))

-- the bytes from behind a piece to the end of the group that it stands in, while it is open
abbrev pub width_behind : Option ℕ → Piece → List Item → ℕ
width_behind None p more = 0
width_behind (Some n) p [] = 0
width_behind (Some n) p (q ∷ more) =
    gap_width p q.0 + length (written q.0) + width_behind (open_behind n q.0) q.0 more

-- whether a comment, or a token that starts a line, stands before the end of a group, while it is open
abbrev pub has_lines : Option ℕ → List Item → Bool
has_lines None more = false
has_lines (Some n) [] = false
has_lines (Some n) ((q, None) ∷ more) = true
has_lines (Some n) ((q, Some m) ∷ more) = m.starts || has_lines (open_behind n q) more

-- whether a group is broken that is opened by a piece in this column
abbrev pub is_broken : ℕ → Piece → List Item → Bool
is_broken column p more =
    has_lines (Some 0) more || nat_lt line_width (column + length (written p) + width_behind (Some 0) p more)

-- ---- lines

-- what was written before a piece
pub record Before : Type 0 where
  -- the bytes of the line so far
  pub column : ℕ
  pub piece : Option Piece
  -- the groups that are open, the innermost first, and whether each is broken
  pub groups : List Bool
  -- whether an item of the innermost group begins
  pub item : Bool

abbrev pub nothing : Before
nothing = record { column = 0; piece = None; groups = []; item = false }

abbrev pub outer : List Bool → List Bool
outer [] = []
outer (b ∷ bs) = bs

abbrev pub innermost : List Bool → Bool
innermost [] = false
innermost (b ∷ bs) = b

abbrev pub count_broken : List Bool → ℕ
count_broken [] = 0
count_broken (true ∷ bs) = suc (count_broken bs)
count_broken (false ∷ bs) = count_broken bs

-- a closer stands outside its group
abbrev pub groups_at : List Bool → Piece → List Bool
groups_at groups p = if closes p then outer groups else groups

-- the depth of a token, which is also that of the comments before it
abbrev pub depth_at : List Bool → List Item → ℕ
depth_at groups [] = 0
depth_at groups ((p, None) ∷ more) = depth_at groups more
depth_at groups ((p, Some m) ∷ more) = m.depth + count_broken (groups_at groups p)

-- whether a piece starts a line: by its mark, as the first of an item or as the closer of a broken group
abbrev pub starts_line : Before → Piece → Option Mark → Bool
starts_line before p None = true
starts_line before p (Some m) = m.starts || (innermost before.groups && (before.item || closes p))

-- whether a piece is a comment, or there is none
abbrev pub ends_line : Option Piece → Bool
ends_line None = false
ends_line (Some p) = is_comment p

abbrev pub blanks : ℕ → List ℕ
blanks depth = replicate (depth * 2) byte.blank

-- what stands before a piece
abbrev pub gap : Option Piece → Piece → Bool → ℕ → List ℕ
gap None q starts depth = blanks depth
gap (Some p) q starts depth =
    if (ends_line (Some p) || starts) then byte.line_feed ∷ blanks depth else (
    if joined p q then [] else byte.blank ∷ [])

-- the column behind what stands before a piece
abbrev pub column_at : Before → Piece → Bool → ℕ → ℕ
column_at before q starts depth =
    if (ends_line before.piece || starts) then depth * 2
    else before.column + length (gap before.piece q starts depth)

-- whether an item begins behind a piece
abbrev pub item_after : Before → Piece → Bool
item_after before p =
    if is_comment p then before.item else (opens p || is_symbol (codes ",") p || is_symbol (codes ";") p)

-- the groups that are open behind a piece in this column
abbrev pub groups_after : Before → ℕ → Piece → List Item → List Bool
groups_after before column p more =
    if closes p then outer before.groups else (
    if opens p then is_broken column p more ∷ before.groups else before.groups)

-- what was written behind a piece that starts a line or does not, and stands so deep
abbrev pub after : Before → Bool → ℕ → Piece → List Item → Before
after before starts depth p more =
    record {
      column = column_at before p starts depth + length (written p);
      piece = Some p;
      groups = groups_after before (column_at before p starts depth) p more;
      item = item_after before p;
    }

-- pieces, each behind what stands before it
abbrev pub lines : Before → List Item → List (List ℕ × Piece)
lines before [] = []
lines before ((p, m) ∷ more) =
    (gap before.piece p (starts_line before p m) (depth_at before.groups ((p, m) ∷ more)), p)
    ∷ lines (after before (starts_line before p m) (depth_at before.groups ((p, m) ∷ more)) p more) more

-- the text of pieces with these marks
abbrev pub layout_by : List Mark → List Piece → List ℕ
layout_by ms ps = spaced (lines nothing (items ps ms)) (byte.line_feed ∷ [])

-- the layout of pieces, which is a function of them alone
abbrev pub layout : List Piece → List ℕ
layout ps = layout_by (text_marks MAX_NESTING (tokens_of (without_comments ps))) ps

-- ---- the law

-- The layout of the pieces of a text has the same pieces: none is lost, and none comes to it.
abbrev pub LayoutKeepsPieces : Type 0
LayoutKeepsPieces = (bytes : List ℕ) (ps : List Piece) → Pieces bytes ps → Pieces (layout ps) ps

-- What has the pieces of a layout has that layout: a second layout changes nothing.
abbrev pub LayoutOnce : Type 0
LayoutOnce =
    (bytes : List ℕ) (ps qs : List Piece) → Pieces bytes ps → Pieces (layout ps) qs → layout qs ≡ layout ps

-- a token at no place
abbrev pub at_no_place : Token → Token
at_no_place t = record { kind = t.kind; line = 0; start = 0; end = 0 }

-- The tokens by which a text is laid out are its own, but for their places.
abbrev pub LayoutKnowsTokens : Type 0
LayoutKnowsTokens =
    (bytes : List ℕ) (ts : List Token) (ps : List Piece) → Tokens bytes ts → Pieces bytes ps →
    tokens_of (without_comments ps) ≡ map at_no_place ts
