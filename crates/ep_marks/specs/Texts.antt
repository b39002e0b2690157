-- The marks of whole texts, and their laws.
use Rattle.std.specs.Prelude.{◌≡◌, ℕ, zero, suc, Bool, true, List, [], length}
use Rattle.ep_token.specs.declared.token.Token.{Token}
use Rattle.ep_tree.specs.declared.component.Component.{Component}
use Rattle.ep_grammar.specs.Descriptions.{Nonterminal}
use Rattle.ep_grammar.specs.Rules.{Grammar, inside_at, rule}
use Rattle.ep_grammar.specs.Units as grammar
use Rattle.ep_marks.specs.Styles.{fits}
use Rattle.ep_marks.specs.Marks.{Mark, Family, marks}
use Rattle.ep_marks.specs.Productions.{components, style}

-- the marks of what stands one level deeper, where this many levels are left
unfoldable pub inner_at : ℕ → Family
inner_at zero in_record n i = []
inner_at (suc k) in_record n i = marks (inside_at k) (inner_at k) (style in_record n) (rule n) i

-- the marks of the tokens of a text in which at most k levels nest
abbrev pub text_marks : ℕ → List Token → List Mark
text_marks k ts = marks (inside_at k) (inner_at k) components grammar.components ts

-- Each production has a style of its own forms, which overlooks nothing that has lines of its own.
abbrev pub StylesFit : Type 0
StylesFit =
    (fits components grammar.components ≡ true) ×
    ((in_record : Bool) (n : Nonterminal) → fits (style in_record n) (rule n) ≡ true)

-- A text that is derived has a mark for each of its tokens.
abbrev pub EachTokenIsMarked : Type 0
EachTokenIsMarked =
    (k : ℕ) (ts : List Token) (cs : List Component) → Grammar k ts cs → length (text_marks k ts) ≡ length ts
