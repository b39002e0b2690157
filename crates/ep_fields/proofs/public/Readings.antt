-- Steps of readings that did not fail, and how long a name is.
use Rattle.std.proofs.Common.{◌≡◌, ℕ, ◌<◌, ◌≤◌, ◌^◌, ◌&&◌, true, List, length, Result, Ok, Err, refl, arith, bytes_eq}
use Rattle.std.proofs.lemmas.Bool.{and_parts, leb-true}
use Rattle.ep_base.specs.Identifiers.{is_identifier, is_name, lower_case}
use Rattle.ep_base.specs.declared.name.TheConstants as limit
use Rattle.ep_fields.specs.Fields.{◌>>=◌}
use Rattle.ep_fields.specs.declared.refusal.FieldRefusal.{FieldRefusal}

-- the value of a step that did not fail
pub bind_ok : {A B : Type 0} (r : Result A FieldRefusal) (f : A → Result B FieldRefusal) (y : B) → (r >>= f) ≡ Ok y
    → (x : A) × (r ≡ Ok x) × (f x ≡ Ok y)
bind_ok (Ok x) f y e = (x, refl, e)
bind_ok (Err d) f y e = absurd cc

-- an answer that is no refusal
abbrev pub done : {A : Type 0} → A → Result A FieldRefusal
done x = Ok x

-- two that are equal answer the same
pub ok_is : {A : Type 0} (x y : A) → done x ≡ done y → x ≡ y
ok_is x y e = cc

-- a name has fewer than 2^32 bytes
pub short_name : (name : List ℕ) → is_name name ≡ true → length name < 2 ^ 32
short_name name is =
    let fits : length name ≤ limit.MAX_NAME = leb-true _ _ (and_parts (is_identifier name && bytes_eq (lower_case name) name) _ is).1 in
    omega (arith, fits)
