-- What an identifier is, and what a name is.
use Rattle.std.specs.Prelude.{ℕ, Bool, true, false, ◌&&◌, ◌==◌, nat_le, if◌then◌else◌, List, [], ◌∷◌, length, map}
use Rattle.std.specs.Char.{is_ascii_alphabetic, is_ascii_alphanumeric, to_ascii_lowercase}
use Rattle.std.specs.Str.{bytes_eq}
use Rattle.ep_base.specs.declared.name.TheConstants as limit

-- `_`
abbrev pub underscore : ℕ
underscore = 95

-- { [ underscore ] ( letter | digit ) }
abbrev pub is_identifier_rest : List ℕ → Bool
is_identifier_rest [] = true
is_identifier_rest (c ∷ []) = is_ascii_alphanumeric c
is_identifier_rest (c ∷ d ∷ ds) =
    if is_ascii_alphanumeric c then is_identifier_rest (d ∷ ds)
    else (c == underscore && is_ascii_alphanumeric d && is_identifier_rest ds)

-- letter { [ underscore ] ( letter | digit ) }, in any case of letters (ISO 10206, 6.1.3)
abbrev pub is_identifier : List ℕ → Bool
is_identifier [] = false
is_identifier (c ∷ cs) = is_ascii_alphabetic c && is_identifier_rest cs

-- the text in lower case, since the case of letters has no meaning outside character strings (ISO 10206, 6.1.1)
abbrev pub lower_case : List ℕ → List ℕ
lower_case text = map to_ascii_lowercase text

-- an identifier in lower case that is not too long
abbrev pub is_name : List ℕ → Bool
is_name bytes = is_identifier bytes && bytes_eq (lower_case bytes) bytes && nat_le (length bytes) limit.MAX_NAME
