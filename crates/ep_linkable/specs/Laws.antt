-- What holds of all answers.
use Rattle.std.specs.Prelude.{◌≡◌, ℕ, List}
use Rattle.std.specs.List.Sorted.{IsPermutation}
use Rattle.ep_linkable.specs.declared.unit.LinkUnit.{LinkUnit}
use Rattle.ep_linkable.specs.declared.refusal.LinkRefusal.{LinkRefusal}
use Rattle.ep_linkable.specs.declared.refusal.LinkRefusal.TheVariants.{Circle}
use Rattle.ep_linkable.specs.Units.{names_at}
use Rattle.ep_linkable.specs.Refusals.{Holds, IsFirst, IsLinkOrder}

-- the same refusal, or two circles
abbrev pub IsSame : LinkRefusal → LinkRefusal → Type 0
IsSame (Circle names) (Circle others) = Unit {0}
IsSame refusal other = refusal ≡ other

-- at most one refusal is the first that holds, but for which circle is named
abbrev pub RefusalsAreOne : Type 0
RefusalsAreOne = (units : List LinkUnit) (refusal other : LinkRefusal) → IsFirst units refusal → IsFirst units other
    → IsSame refusal other

-- units that are refused have no order in which they are linked
abbrev pub RefusedHaveNoOrder : Type 0
RefusedHaveNoOrder = (units : List LinkUnit) (refusal : LinkRefusal) (places : List ℕ) → IsFirst units refusal
    → ¬ IsLinkOrder units places

-- there is one order at most
abbrev pub OrdersAreOne : Type 0
OrdersAreOne = (units : List LinkUnit) (places others : List ℕ) → IsLinkOrder units places
    → IsLinkOrder units others → names_at units places ≡ names_at units others

-- in which order the units are listed changes no refusal that holds, and so not which is the first
abbrev pub ListsRefuseAlike : Type 0
ListsRefuseAlike = (units others : List LinkUnit) (refusal : LinkRefusal) → IsPermutation units others
    → IsFirst units refusal → IsFirst others refusal

-- nor the names in their order of activation
abbrev pub ListsAreLinkedAlike : Type 0
ListsAreLinkedAlike = (units others : List LinkUnit) (places second : List ℕ) → IsPermutation units others
    → IsLinkOrder units places → IsLinkOrder others second → names_at units places ≡ names_at others second

-- nor whether no refusal holds
abbrev pub ListsPassAlike : Type 0
ListsPassAlike = (units others : List LinkUnit) → IsPermutation units others
    → ((refusal : LinkRefusal) → ¬ Holds units refusal) → (refusal : LinkRefusal) → ¬ Holds others refusal
