-- The bytes that mean something in a source text, by name.
use Rattle.std.specs.Prelude.{ℕ}

abbrev pub tab : ℕ
tab = 9

abbrev pub line_feed : ℕ
line_feed = 10

abbrev pub carriage_return : ℕ
carriage_return = 13

abbrev pub blank : ℕ
blank = 32

-- `#`
abbrev pub number_sign : ℕ
number_sign = 35

-- `'`
abbrev pub quote : ℕ
quote = 39

-- `(`
abbrev pub left_parenthesis : ℕ
left_parenthesis = 40

-- `)`
abbrev pub right_parenthesis : ℕ
right_parenthesis = 41

-- `*`
abbrev pub star : ℕ
star = 42

-- `_`
abbrev pub underscore : ℕ
underscore = 95

-- `{`
abbrev pub left_brace : ℕ
left_brace = 123

-- `}`
abbrev pub right_brace : ℕ
right_brace = 125
