-- Which texts are names.
use Rattle.std.proofs.Common.{◌≡◌, ℕ, ◌+◌, ◌<◌, ◌&&◌, Bool, true, false, List, length, Some, None, Ok, Err, refl, ap, arith, cond}
use Rattle.std.specs.Str.{bytes_eq}
use Rattle.std.proofs.lemmas.Bool.{lt-leb}
use Rattle.std.specs.Prelude.{nat_le}
use Rattle.ep_base.specs.Identifiers.{is_identifier, is_name, lower_case}
use Rattle.ep_base.specs.declared.name.TheConstants as limit
use Rattle.ep_fields.specs.Fields.{Position, Reading, behind, field_of, name_at}
use Rattle.ep_fields.specs.Names.{name_if}
use Rattle.ep_fields.specs.declared.refusal.FieldRefusal.TheVariants.{Bad}

-- a text that is no identifier is no name
pub no_identifier : (text : List ℕ) → is_identifier text ≡ false → None ≡ name_if text
no_identifier text is_none = rw is_none refl

and-false : (b : Bool) → (b && false) ≡ false
and-false true = refl
and-false false = refl

leb-above : (m n : ℕ) → n < m → nat_le m n ≡ false
leb-above m n above = lt-leb m n above

-- and neither is one that is too long
pub too_long : (text : List ℕ) (n : ℕ) → limit.MAX_NAME < n → n ≡ length text → None ≡ name_if text
too_long text n above is = rw (ap (λ b. is_identifier text && bytes_eq (lower_case text) text && b) long, none) refl
  where
    long : nat_le (length text) limit.MAX_NAME ≡ false
    long = leb-above (length text) limit.MAX_NAME (omega (arith, above, is))

    none : (is_identifier text && bytes_eq (lower_case text) text && false) ≡ false
    none = and-false (is_identifier text && bytes_eq (lower_case text) text)

-- where a byte field holds a name, that is what is read
pub named : (p : Position) (text name : List ℕ) → field_of p.rest ≡ Some text → Some name ≡ name_if text → name_at p ≡ Ok (name, behind (4 + length text) p)
named p text name found is = rw found (by (is_name text) is)
  where
    read : Bool → Reading (List ℕ)
    read b = cond b (Ok (text, behind (4 + length text) p)) (Err (Bad p.place))

    by : (b : Bool) → Some name ≡ cond b (Some text) None
        → read b ≡ Ok (name, behind (4 + length text) p)
    by true e = let same : name ≡ text = cc in rw same refl
    by false e = absurd cc
