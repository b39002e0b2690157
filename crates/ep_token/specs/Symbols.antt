-- The special symbols, and their other spellings.
use Rattle.std.specs.Prelude.{ℕ, List, [], ◌∷◌, codes, if◌then◌else◌}
use Rattle.std.specs.Str.{bytes_eq}

-- the special symbols of this language (ISO 10206, 6.1.2), each at its place
unfoldable pub special_symbols : List (List ℕ)
special_symbols = codes "+" ∷ codes "-" ∷ codes "*" ∷ codes "=" ∷ codes "<" ∷ codes ">" ∷ codes "(" ∷ codes ")" ∷ codes "[" ∷ codes "]" ∷ codes "." ∷ codes "," ∷ codes ":" ∷ codes ";" ∷ codes "^" ∷ codes "<>" ∷ codes "<=" ∷ codes ">=" ∷ codes ":=" ∷ codes ".." ∷ codes "=>" ∷ codes "><" ∷ []

-- the symbol that a text stands for: some have a second spelling (ISO 10206, 6.1.11)
unfoldable pub reference_spelling : List ℕ → List ℕ
reference_spelling text =
    if bytes_eq text (codes "(.") then codes "["
    else if bytes_eq text (codes ".)") then codes "]"
    else if bytes_eq text (codes "@") then codes "^"
    else text
