-- What the refusal of a text says of it.
use Rattle.std.specs.Prelude.{◌≡◌, ℕ, List, [], ◌∷◌, drop}
use Rattle.ep_token.specs.declared.token.Token.{Token}
use Rattle.ep_grammar.specs.declared.stop.Stop.{Stop}
use Rattle.ep_grammar.specs.declared.stop.Stop.TheVariants as stop
use Rattle.ep_grammar.specs.Refusals.{SyntaxRefusedAt, NestingRefusedAt}
use Rattle.ep_parse.specs.declared.text.ParseRefusal.{ParseRefusal}
use Rattle.ep_parse.specs.declared.text.ParseRefusal.TheVariants.{Syntax, Nested, NoMemory}

-- the line of the last token, or this one where there is none
abbrev pub last_line : ℕ → List Token → ℕ
last_line line [] = line
last_line line (t ∷ ts) = last_line t.line ts

-- the line of the first token, or this one where there is none
abbrev pub first_line : ℕ → List Token → ℕ
first_line line [] = line
first_line line (t ∷ ts) = t.line

-- the line of the token at this place; past the last it is the line of the last, or 1
abbrev pub line_at : List Token → ℕ → ℕ
line_at ts place = first_line (last_line 1 ts) (drop place ts)

-- the refusal for this cause at this place, whose line this is
abbrev pub refusal_at : Stop → ℕ → ℕ → ParseRefusal
refusal_at stop.NoMemory place line = NoMemory
refusal_at stop.Syntax place line = Syntax place line
refusal_at stop.Nested place line = Nested place line

-- A refusal names a place where the tokens are refused, where k levels may nest, and its line.
abbrev pub Refuses : ℕ → List Token → ParseRefusal → Type 0
Refuses k ts NoMemory = Unit {0}
Refuses k ts (Syntax place line) = SyntaxRefusedAt k ts place × (line ≡ line_at ts place)
Refuses k ts (Nested place line) = NestingRefusedAt k ts place × (line ≡ line_at ts place)
