-- What is written of a value (ISO 10206, 6.10.3).
use Rattle.std.specs.Prelude.{ℕ, ℤ, pos, zero, ◌-◌, List, [], ◌∷◌, ◌++◌, length, take, replicate, codes, unsigned_abs}
use Rattle.std.specs.Fmt.{signed_decimal}
use Rattle.ep_values.specs.Events.{Trace, Write}
use Rattle.ep_values.specs.Values.{Value}
use Rattle.ep_values.specs.TypeValues.{TypeValue}
use Rattle.ep_values.specs.declared.operations.Print.{Print}
use Rattle.ep_values.specs.declared.operations.Print.TheVariants as print

-- a value of an expression: a number, a text, a value of an array or record type, or a set by its members
pub data Result : Type 0 where
  Number : (z : ℤ) → Result
  Bytes : (bytes : List ℕ) → Result
  Structure : (type_value : TypeValue) (value : Value) → Result
  Members : (of : List ℕ) → Result

abbrev pub number_of : Result → ℤ
number_of (Number z) = z
number_of (Bytes bytes) = pos 0
number_of (Structure t v) = pos 0
number_of (Members ms) = pos 0

abbrev pub bytes_of : Result → List ℕ
bytes_of (Number z) = []
bytes_of (Bytes bytes) = bytes
bytes_of (Structure t v) = []
bytes_of (Members ms) = []

abbrev pub members_of : Result → List ℕ
members_of (Number z) = []
members_of (Bytes bytes) = []
members_of (Structure t v) = []
members_of (Members ms) = ms

-- False for 0, else True
abbrev pub boolean_text : ℤ → List ℕ
boolean_text (pos zero) = codes "False"
boolean_text _ = codes "True"

-- the text of a value, as long as it needs to be
abbrev pub plain_text : Print → Result → List ℕ
plain_text print.Integer r = signed_decimal (number_of r)
plain_text print.Char r = unsigned_abs (number_of r) ∷ []
plain_text print.Boolean r = boolean_text (number_of r)
plain_text print.Text r = bytes_of r

-- the byte that ends a line of the output, and the blank
abbrev pub line_end : ℕ
line_end = 10

abbrev pub blank : ℕ
blank = 32

-- blanks before the bytes, up to so many places
abbrev pub right_set : ℕ → List ℕ → List ℕ
right_set width bytes = replicate (width - length bytes) blank ++ bytes

-- the text of a value in so many places: a number is never cut, and other texts are
abbrev pub wide_text : Print → ℕ → Result → List ℕ
wide_text print.Integer width r = right_set width (plain_text print.Integer r)
wide_text print.Char width r = right_set width (take width (plain_text print.Char r))
wide_text print.Boolean width r = right_set width (take width (plain_text print.Boolean r))
wide_text print.Text width r = right_set width (take width (plain_text print.Text r))

-- one write of a piece that is not empty
abbrev pub piece_events : List ℕ → Trace
piece_events [] = []
piece_events (byte ∷ bytes) = Write (byte ∷ bytes) ∷ []
