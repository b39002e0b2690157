-- What a comment is.
use Rattle.std.specs.Prelude.{◌≡◌, ℕ, ◌&&◌, ◌||◌, ◌==◌, Bool, List, ◌++◌, codes, slice_index, ◌⊎◌}
use Rattle.ep_token.specs.Bytes as byte

-- whether bytes begin with `{` or `(*`
abbrev pub opens_comment : List ℕ → Bool
opens_comment bytes =
    slice_index bytes 0 == byte.left_brace
    || (slice_index bytes 0 == byte.left_parenthesis && slice_index bytes 1 == byte.star)

-- a text that opens a comment
abbrev pub IsOpener : List ℕ → Type 0
IsOpener text = (text ≡ codes "{") ⊎ (text ≡ codes "(*")

-- a text that closes a comment, whichever opened it
abbrev pub IsCloser : List ℕ → Type 0
IsCloser text = (text ≡ codes "}") ⊎ (text ≡ codes "*)")

-- from `{` or `(*` to the first `}` or `*)` after it, in any pairing (ISO 10206, 6.1.10)
pub record IsComment (text : List ℕ) : Type 0 where
  pub opener : List ℕ
  pub body : List ℕ
  pub closer : List ℕ
  pub text_is : text ≡ opener ++ (body ++ closer)
  pub opens : IsOpener opener
  pub closes : IsCloser closer
  pub first : (front other back : List ℕ) → IsCloser other → body ≡ front ++ (other ++ back) → ⊥
