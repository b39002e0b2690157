-- What a production does to the lines on which its tokens stand: styles, which are written beside the descriptions of
-- the grammar, form by form.
use Rattle.std.specs.Prelude.{Bool, true, false, ◌&&◌, List}
use Rattle.ep_grammar.specs.Classes.{Class}
use Rattle.ep_grammar.specs.Descriptions.{Nonterminal, expressions, factors, component_values, elements}
use Rattle.ep_grammar.specs.Descriptions.{bracketed_values, plains, field_lists, statements, routines}
use Rattle.ep_grammar.specs.Descriptions.{Syntax, give, token, line, inside, apply, either, switch, row}
use Rattle.ep_grammar.specs.Descriptions.{deeper, shaped}

-- the style of a part of a production
pub data Style : Type 0 where
  -- its tokens start no line and stand no deeper than the part
  plain : Style
  -- what may stand one level deeper, which may be the fields of a record
  within : Bool → Style
  -- one after the other
  part : Style → Style → Style
  -- the one or the other
  choice : Style → Style → Style
  -- the first items of a row, and a later one
  rows : Style → Style → Style
  -- what needs a level inside it
  level : Style → Style
  -- the first, and what follows it in the one shape or in the other
  shapes : Style → Style → Style → Style
  -- its first token starts a line
  starts : Style → Style
  -- each of its tokens stands one deeper
  indents : Style → Style
  -- the first style where the next token is of one of these classes, and the second where it is not
  given : List Class → Style → Style → Style

infixl 10 ◌&◌
abbrev pub ◌&◌ : Style → Style → Style
y & z = part y z

-- the second means nothing
infixl 10 ◌<*◌
abbrev pub ◌<*◌ : Style → Style → Style
y <* z = part (part plain y) z

-- a token that starts a line
abbrev pub new_line : Style
new_line = starts plain

abbrev pub optional : Style → Style
optional y = choice (part plain y) plain

abbrev pub optional_list : Style → Style
optional_list y = choice y plain

-- as many as there are
abbrev pub many : Style → Style
many y = part plain (rows plain (part plain y))

-- one or more, the first in one style and the later ones in another
abbrev pub some : Style → Style → Style
some first later = part plain (rows (part plain first) (part plain later))

-- one or more, with a symbol between them
abbrev pub separated : Style → Style
separated y = part plain (rows (part plain y) (part plain y))

-- one or more, with semicolons between them and perhaps at the end
abbrev pub closed : Style → Style
closed y = part plain (rows (part plain y) (part plain (choice (part plain y) plain)))

-- ---- which style may stand beside which description

-- what has neither statements, types nor declarations inside
abbrev pub is_lineless : Nonterminal → Bool
is_lineless expressions = true
is_lineless factors = true
is_lineless component_values = true
is_lineless elements = true
is_lineless bracketed_values = true
is_lineless plains = false
is_lineless field_lists = false
is_lineless statements = false
is_lineless routines = false

abbrev pub lineless : {X : Type 0} → Syntax X → Bool
lineless (give x) = true
lineless (token s) = true
lineless line = true
lineless (inside n) = is_lineless n
lineless (apply s t) = lineless s && lineless t
lineless (either cs s t) = lineless s && lineless t
lineless (switch cs s t) = lineless s && lineless t
lineless (row s cs t r) = lineless s && lineless t
lineless (deeper cs s) = lineless s
lineless (shaped s f cs t g u o) = lineless s && lineless t && lineless u

-- whether a style has the forms of a description, and is plain only where nothing with lines of its own stands inside
abbrev pub fits : Style → {X : Type 0} → Syntax X → Bool
fits plain s = lineless s
fits (within r) (inside n) = true
fits (part y z) (apply s t) = fits y s && fits z t
fits (choice y z) (either cs s t) = fits y s && fits z t
fits (choice y z) (switch cs s t) = fits y s && fits z t
fits (rows y z) (row s cs t r) = fits y s && fits z t
fits (level y) (deeper cs s) = fits y s
fits (shapes y z w) (shaped s f cs t g u o) = fits y s && fits z t && fits w u
fits (starts y) s = fits y s
fits (indents y) s = fits y s
fits (given cs y z) s = fits y s && fits z s
fits _ _ = false
