-- What a piece spells is the token that it comes from.
use Rattle.std.proofs.Common.{◌≡◌, ℕ, ◌+◌, ◌<◌, List, [], ◌∷◌, ◌++◌, length, take, drop, Option, Some, None, Result, Ok, Err, refl, sym, ap, subst, ◌∙◌, arith, map}
use Rattle.ep_token.specs.declared.token.Token.{Token}
use Rattle.ep_token.specs.declared.token.TokenKind.{TokenKind}
use Rattle.ep_token.specs.declared.refusal.TokenRefusal.{TokenRefusal}
use Rattle.ep_token.specs.declared.refusal.TokenRefusal.TheVariants.{NoToken}
use Rattle.ep_token.specs.Tokens.{Piece as Taken}
use Rattle.ep_token.specs.Tokens.{AreTaken, IsTaken, IsSpelled, Tokens, tokens_of}
use Rattle.ep_token.specs.Reading.{piece_at}
use Rattle.ep_token.proofs.public.TokenLaws.{piece-taken, piece-none}
use Rattle.ep_pieces.specs.declared.piece.Piece.{Piece}
use Rattle.ep_pieces.specs.Pieces.{Pieces, pieces_of, token_piece, without_comments, kind_read, kind_of, token_kind, KindsArePieces}
use Rattle.ep_pieces.proofs.Once.{alone, empty-read, taken-one, row-one, blank-pieces, no-comment, drop-add}
use Rattle.ep_pieces.proofs.Canonical.{token-spelled}

read-cases : (text : List ℕ) (kind : Option TokenKind) (r : Result Taken TokenRefusal) → piece_at 1 text ≡ r → 0 < length text → IsTaken text (length text) kind → kind_read r ≡ kind
read-cases text kind (Err f) e some taken = absurd (piece-none 1 text f e (length text) kind taken.can)
read-cases text kind (Ok p) e some taken = (taken-one text p.0 (length text) p.1 kind (piece-taken 1 text p.0 p.1 some e).0 taken).1

-- what stands alone is read as what it spells
alone-read : (text : List ℕ) (kind : Option TokenKind) → IsSpelled text kind → kind_read (piece_at 1 text) ≡ kind
alone-read [] kind s = absurd (piece-none 1 [] (NoToken 1) empty-read 0 kind (alone [] kind s).can)
alone-read (b ∷ bs) kind s = read-cases (b ∷ bs) kind (piece_at 1 (b ∷ bs)) refl (omega arith) (alone (b ∷ bs) kind s)

kind-is : (text : List ℕ) (kind : TokenKind) → IsSpelled text (Some kind) → kind_of (token_piece text kind) ≡ Some kind
kind-is text kind s = alone-read (token_piece text kind).text (Some kind) (token-spelled text kind s)

row-kinds : (bytes : List ℕ) (place : ℕ) (row : List Taken) (rest : List ℕ) → AreTaken (drop place bytes) row rest → map kind_of (without_comments (pieces_of (drop place bytes) row)) ≡ map token_kind (tokens_of bytes place row)
row-kinds bytes place [] rest a = refl
row-kinds bytes place ((n, None) ∷ row) rest a =
    ap (map kind_of) (blank-pieces (take n (drop place bytes)) (pieces_of (drop n (drop place bytes)) row))
    ∙ ap (λ l. map kind_of (without_comments (pieces_of l row))) (drop-add place n bytes)
    ∙ row-kinds bytes (place + n) row rest (subst (λ l. AreTaken l row rest) (drop-add place n bytes) a.1)
row-kinds bytes place ((n, Some k) ∷ row) rest a =
    ap (map kind_of) (no-comment (take n (drop place bytes)) k (pieces_of (drop n (drop place bytes)) row))
    ∙ ap (λ x. x ∷ map kind_of (without_comments (pieces_of (drop n (drop place bytes)) row))) (kind-is (take n (drop place bytes)) k a.0.can.spelled)
    ∙ ap (λ l. Some k ∷ map kind_of (without_comments (pieces_of l row))) (drop-add place n bytes)
    ∙ ap (λ l. Some k ∷ l) (row-kinds bytes (place + n) row rest (subst (λ l. AreTaken l row rest) (drop-add place n bytes) a.1))

pub kinds-are-pieces : KindsArePieces
kinds-are-pieces bytes tokens pieces t p =
    ap (λ l. map kind_of (without_comments l)) p.list_is ∙ row-kinds bytes 0 p.row [] p.taken
    ∙ ap (λ row. map token_kind (tokens_of bytes 0 row)) (row-one bytes p.row t.pieces p.taken t.taken) ∙ ap (map token_kind) (sym t.list_is)
