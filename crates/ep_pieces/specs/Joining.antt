-- Between which pieces nothing needs to stand, and the law of gaps.
use Rattle.std.specs.Prelude.{◌≡◌, ◌≢◌, ℕ, ◌==◌, Bool, true, not, ◌&&◌, ◌||◌, List, [], ◌∷◌, ◌++◌, map, All}
use Rattle.std.specs.Prelude.{codes, Option, Some, None, ◌⊎◌}
use Rattle.std.specs.Str.{bytes_eq}
use Rattle.ep_token.specs.Bytes as byte
use Rattle.ep_token.specs.Tokens.{begins, is_separator}
use Rattle.ep_pieces.specs.Pieces.{Pieces, written}
use Rattle.ep_pieces.specs.declared.piece.Piece.{Piece}
use Rattle.ep_pieces.specs.declared.kind.TheConstants as kind

-- whether a piece is this symbol
abbrev pub is_symbol : List ℕ → Piece → Bool
is_symbol text p = p.kind == kind.SYMBOL && bytes_eq p.text text

abbrev pub is_word : List ℕ → Piece → Bool
is_word text p = p.kind == kind.WORD && bytes_eq p.text text

abbrev pub is_identifier : Piece → Bool
is_identifier p = p.kind == kind.IDENTIFIER

-- `(` or `[`
abbrev pub opens : Piece → Bool
opens p = is_symbol (codes "(") p || is_symbol (codes "[") p

-- `)` or `]`
abbrev pub closes : Piece → Bool
closes p = is_symbol (codes ")") p || is_symbol (codes "]") p

-- `:`; then `,`, `;`, `)` or `]` behind anything but `.` and `*`
abbrev pub joins_end : Piece → Piece → Bool
joins_end p q =
    is_symbol (codes ":") q
    || ((is_symbol (codes ",") q || is_symbol (codes ";") q || closes q)
    && not (is_symbol (codes ".") p || is_symbol (codes "*") p))

-- whether a piece begins with `*` or `.`
abbrev pub begins_apart : Piece → Bool
begins_apart p = begins (λ b. b == byte.star || b == 46) (written p)

-- what begins neither with `*` nor with `.`, behind `(` or `[`
abbrev pub joins_opener : Piece → Piece → Bool
joins_opener p q = opens p && not (begins_apart q)

-- `(`, `[`, `.` or `^` behind an identifier, `)`, `]` or `^`; and `.` behind `end`
abbrev pub joins_selector : Piece → Piece → Bool
joins_selector p q =
    ((opens q || is_symbol (codes ".") q || is_symbol (codes "^") q)
    && (is_identifier p || closes p || is_symbol (codes "^") p))
    || (is_word (codes "end") p && is_symbol (codes ".") q)

-- an identifier behind `.` or `^`
abbrev pub joins_name : Piece → Piece → Bool
joins_name p q = (is_symbol (codes ".") p || is_symbol (codes "^") p) && is_identifier q

-- whether nothing stands between two pieces of a line
unfoldable pub joined : Piece → Piece → Bool
joined p q = joins_end p q || joins_opener p q || joins_selector p q || joins_name p q

-- pieces, each behind what stands before it, and what stands at the end
abbrev pub spaced : List (List ℕ × Piece) → List ℕ → List ℕ
spaced [] end = end
spaced (p ∷ ps) end = p.0 ++ (written p.1 ++ spaced ps end)

-- only separating bytes
abbrev pub IsSpace : List ℕ → Type 0
IsSpace gap = All (λ b. is_separator b ≡ true) gap

-- separating bytes stand between two pieces, or nothing where they join
abbrev pub IsGap : Option Piece → List ℕ → Piece → Type 0
IsGap None gap q = IsSpace gap
IsGap (Some p) gap q = IsSpace gap × ((gap ≢ []) ⊎ (joined p q ≡ true))

-- each piece stands apart from the one before it, or joins it
abbrev pub AreSpaced : Option Piece → List (List ℕ × Piece) → Type 0
AreSpaced before [] = Unit {0}
AreSpaced before (p ∷ ps) = IsGap before p.0 p.1 × AreSpaced (Some p.1) ps

abbrev pub second : List ℕ × Piece → Piece
second p = p.1

-- The law of gaps: the pieces of a text are those of any text that has them with spaces between them, of which none
-- needs to stand where two pieces join.
abbrev pub GapsKeepPieces : Type 0
GapsKeepPieces =
    (bytes : List ℕ) (list : List (List ℕ × Piece)) (end : List ℕ) → Pieces bytes (map second list) →
    AreSpaced None list → IsSpace end → Pieces (spaced list end) (map second list)
