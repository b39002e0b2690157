-- Lower case keeps identifiers.
use Rattle.std.proofs.Common.{◌≡◌, ◌≤◌, ℕ, true, ◌==◌, nat_le, IsTrue, List, [], ◌∷◌, length, refl, arith}
use Rattle.std.proofs.lemmas.Bool.Decides.{nat_tests}
use Rattle.std.proofs.lemmas.Slice.Eq.{bytes_eq-Decides}
use Rattle.std.proofs.lemmas.Str.Ascii.{lowercase-lowercase}
use Rattle.std.proofs.lemmas.Grind.{common_steps}
use Rattle.std.specs.Char.{is_ascii_alphabetic, is_ascii_alphanumeric, to_ascii_lowercase}
use Rattle.std.specs.Str.{bytes_eq}
use Rattle.ep_base.specs.Identifiers.{is_identifier_rest, is_identifier, lower_case, is_name, underscore}
use Rattle.ep_base.specs.declared.name.TheConstants as limit

pub alphanumeric-lower : (c : ℕ) → is_ascii_alphanumeric (to_ascii_lowercase c) ≡ is_ascii_alphanumeric c
alphanumeric-lower c = grind (arith, nat_tests)

pub alphabetic-lower : (c : ℕ) → is_ascii_alphabetic (to_ascii_lowercase c) ≡ is_ascii_alphabetic c
alphabetic-lower c = grind (arith, nat_tests)

pub underscore-lower : (c : ℕ) → (to_ascii_lowercase c == underscore) ≡ (c == underscore)
underscore-lower c = grind (arith, nat_tests)

pub rest-lower : (cs : List ℕ) → is_identifier_rest (lower_case cs) ≡ is_identifier_rest cs
rest-lower [] = refl
rest-lower (c ∷ []) = alphanumeric-lower c
rest-lower (c ∷ d ∷ ds) = rw (alphanumeric-lower c, underscore-lower c, alphanumeric-lower d, rest-lower (d ∷ ds), rest-lower ds) refl

pub identifier-lower : (cs : List ℕ) → is_identifier (lower_case cs) ≡ is_identifier cs
identifier-lower [] = refl
identifier-lower (c ∷ cs) = rw (alphabetic-lower c, rest-lower cs) refl

pub lower-lower : (cs : List ℕ) → lower_case (lower_case cs) ≡ lower_case cs
lower-lower [] = refl
lower-lower (c ∷ cs) = rw (lowercase-lowercase c, lower-lower cs) refl

-- an identifier that is short enough is a name in lower case
pub is_name-lower : (text : List ℕ) → is_identifier text ≡ true → length text ≤ limit.MAX_NAME → IsTrue (is_name (lower_case text))
is_name-lower text i h =
    let same : bytes_eq (lower_case (lower_case text)) (lower_case text) ≡ true = rw (lower-lower text) (grind (arith, bytes_eq-Decides)) in
    let short : nat_le (length (lower_case text)) limit.MAX_NAME ≡ true = grind (arith, common_steps) in
    rw (identifier-lower text, i, same, short) refl

pub ruleset lowered = (is_name-lower)
