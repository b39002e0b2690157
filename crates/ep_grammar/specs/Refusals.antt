-- What an answer to a text says of it, and what a refusal does.
use Rattle.std.specs.Prelude.{◌≡◌, ℕ, ◌+◌, ◌-◌, ◌<◌, ◌≤◌, List, [], length, take, Ok, Err}
use Rattle.ep_token.specs.declared.token.Token.{Token}
use Rattle.ep_tree.specs.declared.component.Component.{Component}
use Rattle.ep_grammar.specs.declared.stop.Stop.{Stop}
use Rattle.ep_grammar.specs.declared.stop.Stop.TheVariants as stop
use Rattle.ep_grammar.specs.Rules.{Grammar, Begins, read_components}

-- The text is that of no list of components in which at most k levels nest, and its tokens up to and with this one
-- begin no such text; the place past the last token is its end.
pub record RefusedAt (k : ℕ) (ts : List Token) (place : ℕ) : Type 0 where
  pub inside : place ≤ length ts
  pub not_derived : (cs : List Component) → Grammar k ts cs → ⊥
  pub no_text : place < length ts → Begins k (take (place + 1) ts) → ⊥

-- However deep a text may nest, the token cannot stand there. The place is the least: the tokens before it begin a
-- text in which at most k levels nest, where k is not 0 (with no level there is no text).
pub record SyntaxRefusedAt (k : ℕ) (ts : List Token) (place : ℕ) : Type 0 where
  pub refused : (m : ℕ) → RefusedAt m ts place
  pub begun_before : 0 < k → Begins k (take place ts)

-- There is a token, which cannot stand there in a text in which at most k levels nest, and can in one that nests
-- deeper. The place is the least, as above.
pub record NestingRefusedAt (k : ℕ) (ts : List Token) (place : ℕ) : Type 0 where
  pub refused : RefusedAt k ts place
  pub begun_before : 0 < k → Begins k (take place ts)
  pub at_token : place < length ts
  pub deeper_text : (m : ℕ) × Begins m (take (place + 1) ts)

-- what it says of a text that it is refused for this cause at this place, where k levels may nest
abbrev pub RefusedFor : Stop → ℕ → List Token → ℕ → Type 0
RefusedFor stop.NoMemory k ts place = Unit {0}
RefusedFor stop.Syntax k ts place = SyntaxRefusedAt k ts place
RefusedFor stop.Nested k ts place = NestingRefusedAt k ts place

-- the place of the first of the tokens that are left
abbrev pub place_of : List Token → List Token → ℕ
place_of ts left = length ts - length left

-- ---- the laws of the grammar

-- what is read to the end is derived
abbrev pub ReadIsDerived : Type 0
ReadIsDerived = (k : ℕ) (ts : List Token) (cs : List Component) → read_components k ts ≡ Ok (cs, []) → Grammar k ts cs

-- what is derived is read to the end
abbrev pub DerivedIsRead : Type 0
DerivedIsRead = (k : ℕ) (ts : List Token) (cs : List Component) → Grammar k ts cs → read_components k ts ≡ Ok (cs, [])

-- a text is that of at most one list of components, whatever the levels
abbrev pub OneTree : Type 0
OneTree = (k m : ℕ) (ts : List Token) (cs ds : List Component) → Grammar k ts cs → Grammar m ts ds → cs ≡ ds

-- where more levels may nest, the same components have the same text
abbrev pub MoreLevels : Type 0
MoreLevels = (k m : ℕ) (ts : List Token) (cs : List Component) → k ≤ m → Grammar k ts cs → Grammar m ts cs

-- ---- the laws of refusals

-- where a parser stops, the text is refused for that cause at the first token that is left
abbrev pub StopIsRefused : Type 0
StopIsRefused =
    (k : ℕ) (ts : List Token) (cause : Stop) (left : List Token) →
    read_components k ts ≡ Err (cause, left) → RefusedFor cause k ts (place_of ts left)

-- where a parser leaves tokens, the first of them cannot stand there
abbrev pub LeftIsRefused : Type 0
LeftIsRefused =
    (k : ℕ) (ts : List Token) (cs : List Component) (left : List Token) →
    read_components k ts ≡ Ok (cs, left) → 0 < length left → SyntaxRefusedAt k ts (place_of ts left)
