-- What a text stands for is one thing, so a text has one row of pieces.
use Rattle.std.proofs.Common.{◌≡◌, ℕ, ◌+◌, ◌-◌, inl, inr, List, [], ◌∷◌, ◌++◌, length, take, drop, Option, Some, None, Err, refl, sym, ap, subst, ◌∙◌, arith, map}
use Rattle.std.specs.Option.{option_to_list}
use Rattle.std.proofs.lemmas.Grind.{common_steps}
use Rattle.ep_token.specs.declared.token.Token.{Token}
use Rattle.ep_token.specs.declared.token.TokenKind.{TokenKind}
use Rattle.ep_token.specs.declared.token.TokenKind.TheVariants.{Word, Id, Number, Str, Sym}
use Rattle.ep_token.specs.declared.refusal.TokenRefusal.TheVariants.{NoToken}
use Rattle.ep_token.specs.Comments.{opens_comment}
use Rattle.ep_token.specs.Symbols.{special_symbols, reference_spelling}
use Rattle.ep_token.specs.Tokens.{Piece as Taken}
use Rattle.ep_token.specs.Tokens.{CanBeTaken, IsTaken, AreTaken, tokens_of, Tokens, is_separator, IsSpelled, MayPrecede}
use Rattle.ep_token.specs.Reading.{piece_at, symbol_at}
use Rattle.ep_token.proofs.public.TokenLaws.{piece-none, tokens-one}
use Rattle.ep_pieces.specs.declared.piece.Piece.{Piece}
use Rattle.ep_pieces.specs.Pieces.{Pieces, piece_of, pieces_of, token_piece, without_comments}
use Rattle.ep_pieces.specs.Pieces.{piece_at as token_piece_at}
use Rattle.ep_pieces.proofs.Rows.{truth, taken-length}

take-all : (text : List ℕ) → take (length text) text ≡ text
take-all text = grind (arith, common_steps)

drop-all : (text : List ℕ) → drop (length text) text ≡ []
drop-all text = grind (arith, common_steps)

append-empty : (more after : List ℕ) → [] ≡ more ++ after → more ≡ []
append-empty [] after e = refl
append-empty (b ∷ more) after e = absurd cc

ends-alone : (text : List ℕ) (kind : Option TokenKind) → MayPrecede text kind []
ends-alone text None = tt
ends-alone text (Some (Word w)) = λ more after e h. append-empty more after e
ends-alone text (Some (Id n)) = λ more after e h. append-empty more after e
ends-alone text (Some (Number n)) = refl
ends-alone text (Some (Str s)) = tt
ends-alone text (Some (Sym s)) = λ _. refl

-- a spelling that stands alone is taken whole
pub alone : (text : List ℕ) (kind : Option TokenKind) → IsSpelled text kind → IsTaken text (length text) kind
alone text kind s =
    record {
      can = record {
        within = omega arith;
        spelled = subst (λ t. IsSpelled t kind) (sym (take-all text)) s;
        ends = subst (λ t. MayPrecede (take (length text) text) kind t) (sym (drop-all text)) (ends-alone (take (length text) text) kind);
      };
      longest = λ m other can. can.within;
    }

first_kind : List Token → Option TokenKind
first_kind [] = None
first_kind (t ∷ ts) = Some t.kind

alone-tokens : (text : List ℕ) (n : ℕ) (kind : Option TokenKind) → first_kind (tokens_of text 0 ((n, kind) ∷ [])) ≡ kind
unfolding first_kind
alone-tokens text n None = refl
alone-tokens text n (Some kind) = refl

alone-row : (text : List ℕ) (kind : Option TokenKind) → IsSpelled text kind → Tokens text (tokens_of text 0 ((length text, kind) ∷ []))
alone-row text kind s = record { pieces = (length text, kind) ∷ []; taken = (alone text kind s, drop-all text); list_is = refl }

-- a text stands for one thing
pub spelled-one : (text : List ℕ) (kind other : Option TokenKind) → IsSpelled text kind → IsSpelled text other → kind ≡ other
spelled-one text kind other s o =
    sym (alone-tokens text (length text) kind)
    ∙ ap first_kind (tokens-one text (tokens_of text 0 ((length text, kind) ∷ [])) (tokens_of text 0 ((length text, other) ∷ [])) (alone-row text kind s) (alone-row text other o))
    ∙ alone-tokens text (length text) other

pub taken-one : (bytes : List ℕ) (n m : ℕ) (kind other : Option TokenKind) → IsTaken bytes n kind → IsTaken bytes m other → (n ≡ m) × (kind ≡ other)
taken-one bytes n m kind other a b =
    let len = taken-length bytes n m kind other a b in
    (len, spelled-one (take m bytes) kind other (subst (λ k. IsSpelled (take k bytes) kind) len a.can.spelled) b.can.spelled)

pub empty-read : piece_at 1 [] ≡ Err (NoToken 1)
unfolding piece_at symbol_at special_symbols reference_spelling is_separator
empty-read = refl

pair-is : (p q : Taken) → (p.0 ≡ q.0) × (p.1 ≡ q.1) → p ≡ q
pair-is p q e = ap (λ n. (n, p.1)) e.0 ∙ ap (λ k. (q.0, k)) e.1

-- a text is one row
pub row-one : (bytes : List ℕ) (ps qs : List Taken) → AreTaken bytes ps [] → AreTaken bytes qs [] → ps ≡ qs
row-one bytes [] [] a b = refl
row-one bytes [] (q ∷ qs) a b = absurd (piece-none 1 [] (NoToken 1) empty-read q.0 q.1 (subst (λ t. CanBeTaken t q.0 q.1) a b.0.can))
row-one bytes (p ∷ ps) [] a b = absurd (piece-none 1 [] (NoToken 1) empty-read p.0 p.1 (subst (λ t. CanBeTaken t p.0 p.1) b a.0.can))
row-one bytes (p ∷ ps) (q ∷ qs) a b =
    let one = pair-is p q (taken-one bytes p.0 q.0 p.1 q.1 a.0 b.0) in
    let rest = row-one (drop p.0 bytes) ps qs a.1 (subst (λ (k : Taken). AreTaken (drop k.0 bytes) qs []) (sym one) b.1) in
    ap (λ x. x ∷ ps) one ∙ ap (λ l. q ∷ l) rest

pub pieces-one : (bytes : List ℕ) (list other : List Piece) → Pieces bytes list → Pieces bytes other → list ≡ other
pieces-one bytes list other p q = p.list_is ∙ ap (pieces_of bytes) (row-one bytes p.row q.row p.taken q.taken) ∙ sym q.list_is

-- a text with pieces has tokens
pub tokens-of : (bytes : List ℕ) (list : List Piece) → Pieces bytes list → (tokens : List Token) × Tokens bytes tokens
tokens-of bytes list p = (tokens_of bytes 0 p.row, record { pieces = p.row; taken = p.taken; list_is = refl })

-- ---- the tokens are the pieces that are no comments

pub no-comment : (text : List ℕ) (kind : TokenKind) (ps : List Piece) → without_comments (token_piece text kind ∷ ps) ≡ token_piece text kind ∷ without_comments ps
no-comment text (Word w) ps = refl
no-comment text (Id n) ps = refl
no-comment text (Number n) ps = refl
no-comment text (Str s) ps = refl
no-comment text (Sym s) ps = refl

pub blank-pieces : (text : List ℕ) (ps : List Piece) → without_comments (option_to_list (piece_of text None) ++ ps) ≡ without_comments ps
blank-pieces text ps =
    elim (truth (opens_comment text)) [
      | inl h ↦ rw h refl
      | inr h ↦ rw h refl
    ]

pub drop-add : (n m : ℕ) (l : List ℕ) → drop m (drop n l) ≡ drop (n + m) l
drop-add n m l = grind (arith, common_steps)

row-tokens : (bytes : List ℕ) (place : ℕ) (row : List Taken) → without_comments (pieces_of (drop place bytes) row) ≡ map (token_piece_at bytes) (tokens_of bytes place row)
row-tokens bytes place [] = refl
row-tokens bytes place ((n, None) ∷ row) =
    blank-pieces (take n (drop place bytes)) (pieces_of (drop n (drop place bytes)) row)
    ∙ ap (λ l. without_comments (pieces_of l row)) (drop-add place n bytes) ∙ row-tokens bytes (place + n) row
row-tokens bytes place ((n, Some k) ∷ row) =
    no-comment (take n (drop place bytes)) k (pieces_of (drop n (drop place bytes)) row)
    ∙ ap (λ l. token_piece (take n (drop place bytes)) k ∷ without_comments (pieces_of l row)) (drop-add place n bytes)
    ∙ ap (λ l. token_piece (take n (drop place bytes)) k ∷ l) (row-tokens bytes (place + n) row)
    ∙ ap (λ m. token_piece (take m (drop place bytes)) k ∷ map (token_piece_at bytes) (tokens_of bytes (place + n) row)) (let m : n ≡ place + n - place = omega arith in m)

pub tokens-are-pieces : (bytes : List ℕ) (tokens : List Token) (pieces : List Piece) → Tokens bytes tokens → Pieces bytes pieces → without_comments pieces ≡ map (token_piece_at bytes) tokens
tokens-are-pieces bytes tokens pieces t p =
    ap without_comments p.list_is ∙ row-tokens bytes 0 p.row
    ∙ ap (λ row. map (token_piece_at bytes) (tokens_of bytes 0 row)) (row-one bytes p.row t.pieces p.taken t.taken) ∙ ap (map (token_piece_at bytes)) (sym t.list_is)
