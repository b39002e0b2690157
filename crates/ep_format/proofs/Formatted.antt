-- The layout of each source of the grammar is what is promised of it.
use Rattle.std.proofs.Common.{◌≡◌, ℕ, List, map, refl, sym, ◌∙◌}
use Rattle.ep_token.specs.Tokens.{Tokens, tokens_of}
use Rattle.ep_token.specs.declared.token.Token.{Token}
use Rattle.ep_grammar.specs.declared.stop.TheConstants.{MAX_NESTING}
use Rattle.ep_pieces.specs.declared.piece.Piece.{Piece}
use Rattle.ep_pieces.specs.Pieces.{Pieces, token_kind}
use Rattle.ep_pieces.proofs.public.PieceLaws.{kinds-are-pieces}
use Rattle.ep_format.specs.Layout.{layout}
use Rattle.ep_format.specs.Formatted.{LayoutIsFormatted}
use Rattle.ep_format.proofs.Lines.{layout-keeps-pieces, layout-once}
use Rattle.ep_format.proofs.kinds.Knot.{kinds-decide}

-- a text with pieces has tokens
tokens-of : (bytes : List ℕ) (ps : List Piece) → Pieces bytes ps → (ts : List Token) × Tokens bytes ts
tokens-of bytes ps p = (tokens_of bytes 0 p.row, record { pieces = p.row; taken = p.taken; list_is = refl })

-- texts with the same pieces have tokens of the same kinds
pub kinds-of-pieces : (one other : List ℕ) (ps : List Piece) (ts us : List Token) → Pieces one ps → Pieces other ps → Tokens one ts → Tokens other us → map token_kind ts ≡ map token_kind us
kinds-of-pieces one other ps ts us p q t u = sym (kinds-are-pieces one ts ps t p) ∙ kinds-are-pieces other us ps u q

pub layout-is-formatted : LayoutIsFormatted
layout-is-formatted source ps ts cs p t g =
    let text = layout-keeps-pieces source ps p in
    let own = tokens-of (layout ps) ps text in
    let kinds = λ (ts : List Token) (t : Tokens source ts). kinds-of-pieces (layout ps) source ps own.0 ts text p own.1 t in
    let tree = kinds-decide MAX_NESTING ts own.0 cs (sym (kinds ts t)) g in
    record {
      pieces = ps;
      of_source = p;
      text_is = refl;
      of_text = text;
      tokens = own.0;
      are_tokens = own.1;
      same_kinds = kinds;
      components = tree.0;
      derived = tree.1;
      once = λ qs q. layout-once source ps qs p q;
    }
