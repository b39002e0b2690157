-- The law of gaps.
use Rattle.std.proofs.Common.{◌≡◌, ◌≢◌, ℕ, ◌<◌, Bool, true, false, ◌⊎◌, inl, inr, List, [], ◌∷◌, ◌++◌, length, take, drop, Option, Some, None, refl, sym, ap, subst, ◌∙◌, map}
use Rattle.std.specs.Option.{option_to_list}
use Rattle.std.proofs.lemmas.List.{take_at, drop_at}
use Rattle.std.proofs.lemmas.List.Elements.{All-head, All-tail}
use Rattle.ep_token.specs.Tokens.{AreTaken, begins, is_separator}
use Rattle.ep_pieces.specs.declared.piece.Piece.{Piece}
use Rattle.ep_pieces.specs.Pieces.{Pieces, piece_of, pieces_of, written}
use Rattle.ep_pieces.specs.Joining.{spaced, IsSpace, IsGap, AreSpaced, second, GapsKeepPieces}
use Rattle.ep_pieces.proofs.Rows.{separator-taken, separator-opens}
use Rattle.ep_pieces.proofs.Canonical.{Spells, Each, each-of}
use Rattle.ep_pieces.proofs.Fronts.{goes_on}
use Rattle.ep_pieces.proofs.Joints.{piece-front, separator-ends, joint}

-- separating bytes before a text
space-pieces : (gap bytes : List ℕ) (ps : List Piece) → IsSpace gap → Pieces bytes ps → Pieces (gap ++ bytes) ps
space-pieces [] bytes ps s p = p
space-pieces (b ∷ gap) bytes ps s p =
    let first : is_separator b ≡ true = All-head (λ b. is_separator b ≡ true) b gap s in
    let rest = space-pieces gap bytes ps (All-tail (λ b. is_separator b ≡ true) b gap s) p in
    record {
      row = (1, None) ∷ rest.row;
      taken = (separator-taken b (gap ++ bytes) first, rest.taken);
      list_is = rest.list_is ∙ ap (λ o. option_to_list o ++ pieces_of (gap ++ bytes) rest.row) (sym (separator-none b first));
    }
  where
    separator-none : (b : ℕ) → is_separator b ≡ true → piece_of (b ∷ []) None ≡ None
    separator-none b h = rw (separator-opens b h) refl

-- a piece before a text
piece-pieces : (p : Piece) (s : Spells p) (rest : List ℕ) (ps : List Piece) → begins (goes_on s.kind (written p)) rest ≡ false → Pieces rest ps → Pieces (written p ++ rest) (p ∷ ps)
piece-pieces p s rest ps g r =
    let front = piece-front p s rest g in
    let behind : drop (length (written p)) (written p ++ rest) ≡ rest = drop_at (written p) rest (length (written p)) refl in
    let text : take (length (written p)) (written p ++ rest) ≡ written p = take_at (written p) rest (length (written p)) refl in
    record {
      row = (length (written p), s.kind) ∷ r.row;
      taken = (front.1, subst (λ l. AreTaken l r.row []) (sym behind) r.taken);
      list_is =
          ap (λ l. p ∷ l) r.list_is
          ∙ ap (λ o. option_to_list o ++ pieces_of rest r.row) (sym s.is)
          ∙ ap (λ t. option_to_list (piece_of t s.kind) ++ pieces_of rest r.row) (sym text)
          ∙ ap (λ l. option_to_list (piece_of (take (length (written p)) (written p ++ rest)) s.kind) ++ pieces_of l r.row) (sym behind);
    }

space-end : (p : Piece) (s : Spells p) (gap rest : List ℕ) → IsSpace gap → (gap ≡ [] → begins (goes_on s.kind (written p)) rest ≡ false) → begins (goes_on s.kind (written p)) (gap ++ rest) ≡ false
space-end p s [] rest space h = h refl
space-end p s (b ∷ gap) rest space h = separator-ends p s b (gap ++ rest) (All-head (λ b. is_separator b ≡ true) b gap space)

append-end : (gap : List ℕ) → gap ++ [] ≡ gap
append-end [] = refl
append-end (b ∷ gap) = ap (λ l. b ∷ l) (append-end gap)

written-some : (p : Piece) (s : Spells p) → 0 < length (written p)
written-some p s = (piece-front p s [] refl).0

-- a piece ends where the next one is spaced from it
apart : (p : Piece) (s : Spells p) (list : List (List ℕ × Piece)) (end : List ℕ) → Each (map second list) → AreSpaced (Some p) list → IsSpace end → begins (goes_on s.kind (written p)) (spaced list end) ≡ false
apart p s [] end e a space = ap (begins (goes_on s.kind (written p))) (sym (append-end end)) ∙ space-end p s end [] space (λ _. refl)
apart p s (q ∷ list) end e a space =
    space-end p s q.0 (written q.1 ++ spaced list end) a.0.0 (λ none.
    joint p q.1 s e.0 (spaced list end) (written-some q.1 e.0) (joins a.0.1 none))
  where
    joins : {gap : List ℕ} {b : Bool} → (gap ≢ []) ⊎ (b ≡ true) → gap ≡ [] → b ≡ true
    joins (inl some) none = absurd (some none)
    joins (inr same) none = same

gap-space : (before : Option Piece) (gap : List ℕ) (p : Piece) → IsGap before gap p → IsSpace gap
gap-space None gap p g = g
gap-space (Some q) gap p g = g.0

spaced-pieces : (before : Option Piece) (list : List (List ℕ × Piece)) (end : List ℕ) → Each (map second list) → AreSpaced before list → IsSpace end → Pieces (spaced list end) (map second list)
spaced-pieces before [] end e a space =
    subst (λ l. Pieces l []) (append-end end) (space-pieces end [] [] space (record { row = []; taken = refl; list_is = refl }))
spaced-pieces before (p ∷ list) end e a space =
    space-pieces p.0 (written p.1 ++ spaced list end) (p.1 ∷ map second list) (gap-space before p.0 p.1 a.0)
    (piece-pieces p.1 e.0 (spaced list end) (map second list) (apart p.1 e.0 list end e.1 a.1 space) (spaced-pieces (Some p.1) list end e.1 a.1 space))

pub gaps-keep-pieces : GapsKeepPieces
gaps-keep-pieces bytes list end p a space =
    spaced-pieces None list end (subst Each (sym p.list_is) (each-of bytes p.row [] p.taken)) a space
