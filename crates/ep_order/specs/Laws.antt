-- What holds of all orders and circles.
use Rattle.std.specs.Prelude.{◌≡◌, ℕ, List}
use Rattle.std.specs.List.Sorted.{IsPermutation}
use Rattle.ep_order.specs.Systems.{NamedUnit}
use Rattle.ep_order.specs.Orders.{IsOrder}
use Rattle.ep_order.specs.Circles.{IsCircle}

-- a system has at most one order
abbrev pub OrdersAreOne : Type 0
OrdersAreOne = (units : List NamedUnit) (order other : List (List ℕ)) → IsOrder units order → IsOrder units other
    → order ≡ other

-- a system with a circle has none
abbrev pub CirclesHaveNoOrder : Type 0
CirclesHaveNoOrder = (units : List NamedUnit) (circle order : List (List ℕ)) → IsCircle units circle
    → ¬ IsOrder units order

-- in which order the units of a system are listed plays no part
abbrev pub ListsPlayNoPart : Type 0
ListsPlayNoPart = (units others : List NamedUnit) (order : List (List ℕ)) → IsPermutation units others
    → IsOrder units order → IsOrder others order
