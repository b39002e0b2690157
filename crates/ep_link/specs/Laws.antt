-- What holds of every image that objects are linked to.
use Rattle.std.specs.Prelude.{◌≡◌, ℕ, List, [], ◌∷◌, Some, length, slice_get}
use Rattle.ep_object.specs.Placing.{HasDistinctNames, linked, alone}
use Rattle.ep_object.specs.declared.code.Object.{Object}
use Rattle.ep_link.specs.Linking.{AreDistinct, StandsAt}

-- each object of distinct names stands in the image
abbrev pub LinkedStand : Type 0
LinkedStand = (os : List Object) → AreDistinct os → (k : ℕ) (o : Object) → slice_get os k ≡ Some o → StandsAt os k o

-- no two units have the same name
abbrev pub LinkedAreDistinct : Type 0
LinkedAreDistinct = (os : List Object) → AreDistinct os → HasDistinctNames (linked os)

-- there are as many units as objects
abbrev pub LinkedHasAllUnits : Type 0
LinkedHasAllUnits = (os : List Object) → length (linked os).units ≡ length os

-- one object is linked to the image of it alone
abbrev pub LinkedAlone : Type 0
LinkedAlone = (o : Object) → linked (o ∷ []) ≡ alone o
