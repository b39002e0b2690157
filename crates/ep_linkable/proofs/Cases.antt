-- The refusals by their numbers, and the first of them.
use Rattle.std.proofs.Common.{◌≡◌, ℕ, zero, suc, ◌<◌, ◌≤◌, ◌+◌, List, false, inl, inr, refl, sym, subst, arith}
use Rattle.std.specs.List.{All}
use Rattle.ep_order.specs.Circles.{IsCircle}
use Rattle.ep_linkable.specs.declared.unit.LinkUnit.{LinkUnit}
use Rattle.ep_linkable.specs.declared.refusal.LinkRefusal.{LinkRefusal}
use Rattle.ep_linkable.specs.declared.refusal.LinkRefusal.TheVariants.{NoProgram, TwoPrograms, TwoUnits}
use Rattle.ep_linkable.specs.declared.refusal.LinkRefusal.TheVariants.{TwoInterfaces, NoModule, InterfaceDiffers}
use Rattle.ep_linkable.specs.declared.refusal.LinkRefusal.TheVariants.{Circle, TooLarge, NoMemory}
use Rattle.ep_linkable.specs.declared.linkable.TheConstants as limit
use Rattle.ep_linkable.specs.Units.{exports_named, units_named}
use Rattle.ep_linkable.specs.Supplies.{system}
use Rattle.ep_linkable.specs.Refusals.{Holds, IsCase, IsRefusal, NoneBefore, number, total_size}
use Rattle.ep_linkable.specs.Refusals.{AreLeastPrograms, IsLeastTwice, IsLeastImport, IsMissing, IsDifferent}
use Rattle.ep_linkable.proofs.Lists.{same_or_not}

-- some refusal of this number holds
abbrev pub Case : List LinkUnit → ℕ → Type 0
Case units zero = ⊥
Case units (suc zero) = All (λ unit. unit.is_program ≡ false) units
Case units (suc (suc zero)) = (first : List ℕ) × (second : List ℕ) × AreLeastPrograms units first second
Case units (suc (suc (suc zero))) = (name : List ℕ) × IsLeastTwice (units_named units) name
Case units (suc (suc (suc (suc zero)))) = (name : List ℕ) × IsLeastTwice (exports_named units) name
Case units (suc (suc (suc (suc (suc zero))))) =
    (interface : List ℕ) × (importer : List ℕ) × IsLeastImport units (IsMissing units) interface importer
Case units (suc (suc (suc (suc (suc (suc zero)))))) =
    (interface : List ℕ) × (importer : List ℕ) × IsLeastImport units (IsDifferent units) interface importer
Case units (suc (suc (suc (suc (suc (suc (suc zero))))))) = (names : List (List ℕ)) × IsCircle (system units) names
Case units (suc (suc (suc (suc (suc (suc (suc (suc zero)))))))) = limit.MAX_LINK < total_size units
Case units (suc (suc (suc (suc (suc (suc (suc (suc (suc n))))))))) = ⊥

case_of : (units : List LinkUnit) (refusal : LinkRefusal) → Holds units refusal → Case units (number refusal)
case_of units NoProgram h = h
case_of units (TwoPrograms first second) h = (first, second, h)
case_of units (TwoUnits name) h = (name, h)
case_of units (TwoInterfaces name) h = (name, h)
case_of units (NoModule interface importer) h = (interface, importer, h)
case_of units (InterfaceDiffers interface importer) h = (interface, importer, h)
case_of units (Circle names) h = (names, h)
case_of units (TooLarge size) h = subst (λ n. limit.MAX_LINK < n) h.0 h.1
case_of units NoMemory h = h

some_number : (refusal : LinkRefusal) → 0 < number refusal
some_number NoProgram = omega arith
some_number (TwoPrograms first second) = omega arith
some_number (TwoUnits name) = omega arith
some_number (TwoInterfaces name) = omega arith
some_number (NoModule interface importer) = omega arith
some_number (InterfaceDiffers interface importer) = omega arith
some_number (Circle names) = omega arith
some_number (TooLarge size) = omega arith
some_number NoMemory = omega arith

pub low_number : (refusal : LinkRefusal) → number refusal < 10
low_number NoProgram = omega arith
low_number (TwoPrograms first second) = omega arith
low_number (TwoUnits name) = omega arith
low_number (TwoInterfaces name) = omega arith
low_number (NoModule interface importer) = omega arith
low_number (InterfaceDiffers interface importer) = omega arith
low_number (Circle names) = omega arith
low_number (TooLarge size) = omega arith
low_number NoMemory = omega arith

-- ---- none of the first refusals

pub none_first : (units : List LinkUnit) → NoneBefore units 1
none_first units refusal l h = let some : 0 < number refusal = some_number refusal in omega (arith, l, some)

pub none_more : (units : List LinkUnit) (n m : ℕ) → m ≡ n + 1 → NoneBefore units n → ¬ Case units n
    → NoneBefore units m
none_more units n m e none fails refusal l h = elim (same_or_not (number refusal) n) [
  | inl same ↦ fails (subst (Case units) same (case_of units refusal h))
  | inr other ↦ none refusal (omega (arith, l, e, other)) h
]

pub none_all : (units : List LinkUnit) → NoneBefore units 9 → (refusal : LinkRefusal) → ¬ Holds units refusal
none_all units none refusal h = elim (same_or_not (number refusal) 9) [
  | inl same ↦ subst (Case units) same (case_of units refusal h)
  | inr other ↦ let low : number refusal < 10 = low_number refusal in none refusal (omega (arith, low, other)) h
]

-- a refusal of a number before which none holds is the first
pub first_case : (units : List LinkUnit) (n : ℕ) (refusal : LinkRefusal) → NoneBefore units n → IsCase units n refusal
    → IsRefusal units refusal
first_case units n refusal none (inl e) = inl e
first_case units n refusal none (inr h) = inr (h.0, subst (NoneBefore units) (sym h.1) none)

-- ---- the last refusal

pub too_large : (units : List LinkUnit) (size : ℕ) → size ≡ total_size units → limit.MAX_LINK < size
    → NoneBefore units 8 → IsRefusal units (TooLarge size)
too_large units size e large none = inr ((e, large), none)

pub none_large : (units : List LinkUnit) (size : ℕ) → size ≡ total_size units → size ≤ limit.MAX_LINK
    → NoneBefore units 8 → (refusal : LinkRefusal) → ¬ Holds units refusal
none_large units size e small none =
    none_all units (none_more units 8 9 refl none (λ large.
    let above : limit.MAX_LINK < size = subst (λ n. limit.MAX_LINK < n) (sym e) large in
    omega (arith, above, small)))
