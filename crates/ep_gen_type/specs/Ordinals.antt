-- Which types of a unit are ordinal: what decides it for a denoter, and what is known of the types of a list.
use Rattle.std.specs.Prelude.{◌≡◌, ◌≤◌, ℕ, suc, Bool, true, false, List, [], ◌∷◌, length, slice_get, Option}
use Rattle.std.specs.Prelude.{Some, None, is_some}
use Rattle.ep_typed.specs.Denoters.{host_within}
use Rattle.ep_typed.specs.Trees.{Denoter, Required, Named, Subrange, Enumeration, Array, Record, Set, Initial}
use Rattle.ep_typed.specs.declared.unit.UnitType.{UnitType}
use Rattle.ep_gen_type.specs.declared.ordinals.Decisive.{Decisive}
use Rattle.ep_gen_type.specs.declared.ordinals.Decisive.TheVariants.{Itself, ByType}

-- a name by its type; what has no host is not ordinal
abbrev pub deciding : Denoter → Decisive
deciding (Required r) = Itself true
deciding (Named index []) = ByType index
deciding (Named index (b ∷ bs)) = Itself false
deciding (Subrange of low high) = deciding of
deciding (Enumeration []) = Itself false
deciding (Enumeration (first ∷ others)) = Itself true
deciding (Array index component) = Itself false
deciding (Record ds) = Itself false
deciding (Set base) = Itself false
deciding (Initial of value) = deciding of

-- what is known of a type, where the list has it
abbrev pub known_at : Option (Option Bool) → Option Bool
known_at None = None
known_at (Some known) = known

-- by what is known of the types of a list
abbrev pub known_of : List (Option Bool) → Decisive → Option Bool
known_of known (Itself is) = Some is
known_of known (ByType index) = known_at (slice_get known index)

-- What is known of types by their names is so: where it is known, it takes no more names than there are types up to
-- this one, and so is the same for each greater number of them.
abbrev pub AreKnown : List UnitType → List (Option Bool) → Type 0
AreKnown types known =
    (index n : ℕ) (is : Bool) → slice_get known index ≡ Some (Some is) → suc (suc index) ≤ n
    → is ≡ is_some (host_within types n (Named index []))

-- so much is known of all types
pub record Knows (types : List UnitType) (known : List (Option Bool)) : Type 0 where
  pub counted : length known ≡ length types
  pub so : AreKnown types known
