-- Which objects are linked, and how one of them stands in their image.
use Rattle.std.specs.Prelude.{◌≡◌, ℕ, List, [], ◌∷◌, Option, Some, None, slice_get}
use Rattle.ep_object.specs.Placing.{Placement, Stands, linked, placements}
use Rattle.ep_object.specs.declared.code.Object.{Object}

abbrev pub with_picked : Option Object → List Object → List Object
with_picked None os = os
with_picked (Some o) os = o ∷ os

-- the objects in the order of these numbers of them
abbrev pub in_order : List Object → List ℕ → List Object
in_order os [] = []
in_order os (n ∷ order) = with_picked (slice_get os n) (in_order os order)

-- no two objects have the same name
abbrev pub AreDistinct : List Object → Type 0
AreDistinct os =
    (i j : ℕ) (a b : Object) → slice_get os i ≡ Some a → slice_get os j ≡ Some b → a.name ≡ b.name → i ≡ j

-- the object of this number stands in the image that all are linked to, as the unit of that number
pub record StandsAt (os : List Object) (k : ℕ) (o : Object) : Type 0 where
  pub placement : Placement
  pub listed : slice_get (placements os) k ≡ Some placement
  pub unit : placement.unit ≡ k
  pub stands : Stands (linked os) (placements os) placement o
