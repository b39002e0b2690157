-- The modules that are not placed yet, as a queue keeps them: those that may come next, by their names, and those that
-- wait for a supplier.
use Rattle.std.specs.Prelude.{◌≡◌, ℕ, false, ◌⊎◌, List, Option, None, Some, slice_get, length, if◌then◌else◌}
use Rattle.std.specs.List.{Contains}
use Rattle.std.specs.Str.{bytes_eq}
use Rattle.std.specs.Ordering.{nat_cmp}
use Rattle.std.specs.Cmp.Lexicographic.{slice_cmp}
use Rattle.std.specs.BTreeMap.{get_by}
use Rattle.std.specs.declared.vec.Vec.{Vec}
use Rattle.std.specs.declared.alloc.Global.{Global}
use Rattle.ep_order.specs.declared.dependent.Dependent.{Dependent}
use Rattle.ep_order.specs.declared.queue.Waiter.{Waiter}
use Rattle.ep_order.specs.declared.queue.Queue.{Queue}
use Rattle.ep_order.specs.Systems.{IsUpTo}
use Rattle.ep_order.specs.Dependents.{StandsAt, IsModuleAt, name_at}
use Rattle.ep_order.specs.Placings.{IsReadyAt, ArePlacedBefore}

-- the place of the one of this name that may come next
abbrev pub ready_under : Queue → List ℕ → Option ℕ
ready_under queue name = get_by (λ key. slice_cmp nat_cmp name key.now) queue.ready

-- the module at a place waits for the unit at the place of its supplier of this number
abbrev pub Waits : Queue → ℕ → ℕ → ℕ → Type 0
Waits queue supplier place number = (row : Vec Waiter Global) × (slice_get queue.waiting.items supplier ≡ Some row)
    × Contains row.items (record { unit = place; supplier = number })

-- a module waits rightly: this is its supplier of that number, and all before it are placed
abbrev pub IsWaiter : List Dependent → List ℕ → ℕ → ℕ → ℕ → Type 0
IsWaiter units placed supplier place number = (unit : Dependent) × StandsAt units place unit
    × (unit.is_program ≡ false) × (slice_get unit.suppliers number ≡ Some supplier)
    × ArePlacedBefore placed unit.suppliers number

-- what is kept of a module is so; of those that wait for a unit that is placed nothing is said
pub record IsSound (units : List Dependent) (placed : List ℕ) (queue : Queue) : Type 0 where
  pub rows : length queue.waiting.items ≡ length units
  pub ready : (name : List ℕ) (place : ℕ) → ready_under queue name ≡ Some place
      → (name_at units place ≡ name) × IsReadyAt units placed place
  pub waits : (supplier place number : ℕ) → ¬ Contains placed supplier → Waits queue supplier place number
      → IsWaiter units placed supplier place number

-- the module at this place is among those that may come next, or waits for a unit that is not placed
abbrev pub IsKept : List Dependent → List ℕ → Queue → ℕ → Type 0
IsKept units placed queue place = (ready_under queue (name_at units place) ≡ Some place)
    ⊎ ((supplier : ℕ) × (number : ℕ) × ¬ Contains placed supplier × Waits queue supplier place number)

-- each module is placed or kept
abbrev pub IsWhole : List Dependent → List ℕ → Queue → Type 0
IsWhole units placed queue = (place : ℕ) → IsModuleAt units place
    → Contains placed place ⊎ IsKept units placed queue place

-- when the unit at this place has just been placed, each module is placed or kept or waits for it, and none that waits
-- for it is placed
pub record IsWoken (units : List Dependent) (placed : List ℕ) (queue : Queue) (supplier : ℕ) : Type 0 where
  pub sound : IsSound units placed queue
  pub whole : (place : ℕ) → IsModuleAt units place → (Contains placed place ⊎ IsKept units placed queue place)
      ⊎ ((number : ℕ) × Waits queue supplier place number)
  pub unplaced : (place number : ℕ) → Waits queue supplier place number → ¬ Contains placed place
  pub waits : (place number : ℕ) → Waits queue supplier place number → IsWaiter units placed supplier place number

-- this is the place of the least name of those that may come next, which is taken out
pub record IsTaken (before after : Queue) (place : ℕ) (name : List ℕ) : Type 0 where
  pub was : ready_under before name ≡ Some place
  pub least : (other : List ℕ) (second : ℕ) → ready_under before other ≡ Some second → IsUpTo name other
  pub others : (other : List ℕ)
      → ready_under after other ≡ (if bytes_eq name other then None else ready_under before other)
  pub waiting : after.waiting ≡ before.waiting
