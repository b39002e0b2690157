-- Numbers that are added one after another.
use Rattle.std.proofs.Common.{◌≡◌, Bool, true, false, ◌||◌, refl}

-- whether one of three holds, however they are grouped
pub or_grouped : (x y z : Bool) → ((x || y) || z) ≡ (x || (y || z))
or_grouped true y z = refl
or_grouped false y z = refl

-- one of which the second does not hold
pub or_none : (x : Bool) → (x || false) ≡ x
or_none true = refl
or_none false = refl
