-- How references are compared and hashed: by the unit's name and the number.
use Rattle.std.specs.Prelude.{◌≡◌, ◌==◌, ◌&&◌, ◌++◌, ℕ, Bool, true, List, nat_eq}
use Rattle.std.specs.Cmp.{IsEquivalence, and_equiv, nat_eq_equiv, on_equiv, unsigned_Decides}
use Rattle.std.specs.Cmp.Lexicographic.{lists_equiv, pointwise}
use Rattle.std.specs.Hash.{Alike, HashWrites, and-Alike, items_Alike, on_Alike, same_Alike, slice, u8, u32}

-- whether two names with numbers are the same
abbrev pub same : List ℕ × ℕ → List ℕ × ℕ → Bool
same a b = pointwise nat_eq a.0 b.0 && (a.1 == b.1)

pub same_equiv : IsEquivalence same
same_equiv =
    and_equiv
    (on_equiv (λ (a : List ℕ × ℕ). a.0) (lists_equiv nat_eq_equiv))
    (on_equiv (λ (a : List ℕ × ℕ). a.1) nat_eq_equiv)

-- what a name with a number gives to a hash
abbrev pub fed : List ℕ × ℕ → HashWrites
fed a = slice u8 a.0 ++ u32 a.1

alike : Alike same fed
alike =
    and-Alike
    (on_Alike (λ (a : List ℕ × ℕ). a.0) (items_Alike (same_Alike u8 unsigned_Decides)))
    (on_Alike (λ (a : List ℕ × ℕ). a.1) (same_Alike u32 unsigned_Decides))

-- the same names with numbers give the same
pub fed_alike : (a b : List ℕ × ℕ) → same a b ≡ true → fed a ≡ fed b
fed_alike = alike.fed
