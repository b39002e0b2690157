-- The kinds of tokens alone decide whether they are a text of the grammar.
use Rattle.std.specs.Prelude.{◌≡◌, ℕ, List, map}
use Rattle.ep_token.specs.declared.token.Token.{Token}
use Rattle.ep_tree.specs.declared.component.Component.{Component}
use Rattle.ep_grammar.specs.Rules.{Grammar}
use Rattle.ep_pieces.specs.Pieces.{token_kind}

-- Where tokens derive components in which at most k levels nest, other tokens of the same kinds derive such components
-- too. They are the same but for their lines.
abbrev pub KindsDecide : Type 0
KindsDecide =
    (k : ℕ) (ts us : List Token) (cs : List Component) → map token_kind ts ≡ map token_kind us → Grammar k ts cs →
    (ds : List Component) × Grammar k us ds
