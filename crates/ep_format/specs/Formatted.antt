-- What is promised of the layout of a source text.
use Rattle.std.specs.Prelude.{◌≡◌, ℕ, List, map}
use Rattle.ep_token.specs.Tokens.{Tokens}
use Rattle.ep_token.specs.declared.token.Token.{Token}
use Rattle.ep_tree.specs.declared.component.Component.{Component}
use Rattle.ep_grammar.specs.declared.stop.TheConstants.{MAX_NESTING}
use Rattle.ep_grammar.specs.Rules.{Grammar}
use Rattle.ep_pieces.specs.declared.piece.Piece.{Piece}
use Rattle.ep_pieces.specs.Pieces.{Pieces, token_kind}
use Rattle.ep_format.specs.Layout.{layout}

-- The text is the layout of the pieces of the source, of which none is lost and to which none comes; it is a text of
-- the grammar with the same tokens but for their places, and its own layout.
pub record IsFormatted (source text : List ℕ) : Type 0 where
  pub pieces : List Piece
  pub of_source : Pieces source pieces
  pub text_is : text ≡ layout pieces
  pub of_text : Pieces text pieces
  pub tokens : List Token
  pub are_tokens : Tokens text tokens
  pub same_kinds : (ts : List Token) → Tokens source ts → map token_kind tokens ≡ map token_kind ts
  pub components : List Component
  pub derived : Grammar MAX_NESTING tokens components
  pub once : (qs : List Piece) → Pieces text qs → layout qs ≡ text

-- The layout of the pieces of each source of the grammar is such a text.
abbrev pub LayoutIsFormatted : Type 0
LayoutIsFormatted =
    (source : List ℕ) (ps : List Piece) (ts : List Token) (cs : List Component) → Pieces source ps → Tokens source ts →
    Grammar MAX_NESTING ts cs → IsFormatted source (layout ps)
