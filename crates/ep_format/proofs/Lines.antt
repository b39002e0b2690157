-- The layout of pieces has these pieces.
use Rattle.std.proofs.Common.{◌≡◌, ◌≢◌, ℕ, ◌*◌, Bool, true, false, ◌||◌, cond, ◌⊎◌, inl, inr, List, [], ◌∷◌, Option, Some, None, refl, sym, ap, subst, ◌∙◌, map}
use Rattle.std.proofs.lemmas.List.Elements.{All-nil, All-cons, All-replicate}
use Rattle.ep_token.specs.Tokens.{is_separator}
use Rattle.ep_token.specs.declared.token.Token.{Token}
use Rattle.ep_token.specs.declared.token.TokenKind.{TokenKind}
use Rattle.ep_marks.specs.declared.mark.Mark.{Mark}
use Rattle.ep_pieces.specs.declared.piece.Piece.{Piece}
use Rattle.ep_pieces.specs.Pieces.{Pieces, is_comment, kind_of, token_kind, without_comments}
use Rattle.ep_pieces.specs.Joining.{joined, IsSpace, IsGap, AreSpaced, second}
use Rattle.ep_pieces.proofs.public.PieceLaws.{gaps-keep-pieces, kinds-are-pieces, pieces-one}
use Rattle.ep_format.specs.Layout.{Item, items, Before, nothing, starts_line, blanks, gap, depth_at, after, lines, layout_by, layout, LayoutKeepsPieces, LayoutOnce, LayoutKnowsTokens, known, tokens_of, at_no_place}

truth : (b : Bool) → (b ≡ true) ⊎ (b ≡ false)
truth true = inl refl
truth false = inr refl

blank-separates : is_separator 32 ≡ true
unfolding is_separator
blank-separates = refl

line_feed-separates : is_separator 10 ≡ true
unfolding is_separator
line_feed-separates = refl

abbrev separates : ℕ → Type 0
separates b = is_separator b ≡ true

blanks-space : (depth : ℕ) → IsSpace (blanks depth)
blanks-space depth = All-replicate separates (depth * 2) 32 blank-separates

line-space : (depth : ℕ) → IsSpace (10 ∷ blanks depth)
line-space depth = All-cons separates 10 (blanks depth) line_feed-separates (blanks-space depth)

one-space : IsSpace (32 ∷ [])
one-space = All-cons separates 32 [] blank-separates (All-nil separates)

some-bytes : (b : ℕ) (bs : List ℕ) → b ∷ bs ≢ []
some-bytes b bs e = absurd cc

-- what stands before a piece sets it apart from the one before, or they join
gap-is : (before : Option Piece) (q : Piece) (starts : Bool) (depth : ℕ) → IsGap before (gap before q starts depth) q
gap-is None q starts depth = blanks-space depth
gap-is (Some p) q starts depth =
    elim (truth (is_comment p || starts)) [
      | inl h ↦ subst (λ b. IsGap (Some p) (cond b (10 ∷ blanks depth) (cond (joined p q) [] (32 ∷ []))) q) (sym h) (line-space depth, inl (some-bytes 10 (blanks depth)))
      | inr h ↦ subst (λ b. IsGap (Some p) (cond b (10 ∷ blanks depth) (cond (joined p q) [] (32 ∷ []))) q) (sym h) (joined-gap (joined p q) refl)
    ]
  where
    joined-gap : (b : Bool) → joined p q ≡ b → IsGap (Some p) (cond b [] (32 ∷ [])) q
    joined-gap true e = (All-nil separates, inr e)
    joined-gap false e = (one-space, inl (some-bytes 32 []))

lines-spaced : (before : Before) (list : List Item) → AreSpaced before.piece (lines before list)
lines-spaced before [] = tt
lines-spaced before ((p, m) ∷ more) =
    let depth = depth_at before.groups ((p, m) ∷ more) in
    let starts = starts_line before p m in
    (gap-is before.piece p starts depth, lines-spaced (after before starts depth p more) more)

abbrev piece_in : Item → Piece
piece_in i = i.0

lines-pieces : (before : Before) (list : List Item) → map second (lines before list) ≡ map piece_in list
lines-pieces before [] = refl
lines-pieces before ((p, m) ∷ more) =
    let depth = depth_at before.groups ((p, m) ∷ more) in
    ap (λ l. p ∷ l) (lines-pieces (after before (starts_line before p m) depth p more) more)

items-pieces : (ps : List Piece) (ms : List Mark) → map piece_in (items ps ms) ≡ ps
items-pieces [] ms = refl
items-pieces (p ∷ ps) [] = ap (λ l. p ∷ l) (items-pieces ps [])
items-pieces (p ∷ ps) (m ∷ ms) =
    elim (truth (is_comment p)) [
      | inl h ↦ rw h (ap (λ l. p ∷ l) (items-pieces ps (m ∷ ms)))
      | inr h ↦ rw h (ap (λ l. p ∷ l) (items-pieces ps ms))
    ]

layout-pieces : (ms : List Mark) (bytes : List ℕ) (ps : List Piece) → Pieces bytes ps → Pieces (layout_by ms ps) ps
layout-pieces ms bytes ps p =
    let same : map second (lines nothing (items ps ms)) ≡ ps = lines-pieces nothing (items ps ms) ∙ items-pieces ps ms in
    subst (Pieces (layout_by ms ps)) same
    (gaps-keep-pieces bytes (lines nothing (items ps ms)) (10 ∷ []) (subst (Pieces bytes) (sym same) p) (lines-spaced nothing (items ps ms)) (line-space 0))

pub layout-keeps-pieces : LayoutKeepsPieces
layout-keeps-pieces bytes ps p = layout-pieces _ bytes ps p

pub layout-once : LayoutOnce
layout-once bytes ps qs p q = ap layout (pieces-one (layout ps) qs ps q (layout-keeps-pieces bytes ps p))

-- tokens of these kinds
placed : List (Option TokenKind) → List Token
placed [] = []
placed (k ∷ ks) = record { kind = known k; line = 0; start = 0; end = 0 } ∷ placed ks

placed-pieces : (ps : List Piece) → tokens_of ps ≡ placed (map kind_of ps)
unfolding placed
placed-pieces [] = refl
placed-pieces (p ∷ ps) = ap (λ l. record { kind = known (kind_of p); line = 0; start = 0; end = 0 } ∷ l) (placed-pieces ps)

placed-tokens : (ts : List Token) → placed (map token_kind ts) ≡ map at_no_place ts
unfolding placed
placed-tokens [] = refl
placed-tokens (t ∷ ts) = ap (λ l. at_no_place t ∷ l) (placed-tokens ts)

pub layout-knows-tokens : LayoutKnowsTokens
layout-knows-tokens bytes ts ps t p =
    placed-pieces (without_comments ps) ∙ ap placed (kinds-are-pieces bytes ts ps t p) ∙ placed-tokens ts
