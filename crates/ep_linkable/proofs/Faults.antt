-- For `no_fault`: imports that have a fault, and the least of them.
use Rattle.std.proofs.Common.{◌≡◌, ℕ, ◌<◌, ◌+◌, List, length, get_or, slice_get, Bool, true, false, cond}
use Rattle.std.proofs.Common.{Some, None, not, inr, refl, sym, subst, ap, ◌∙◌, arith, IsTrue, ◌↔◌}
use Rattle.std.specs.List.{Contains, count_by}
use Rattle.std.specs.Str.{bytes_eq}
use Rattle.std.proofs.lemmas.Option.{same_Some, none-some, slice_get_within, slice_get_read, slice_get-get_or}
use Rattle.ep_order.specs.Systems.{IsUpTo}
use Rattle.ep_linkable.specs.declared.imports.Fault.{Fault}
use Rattle.ep_linkable.specs.declared.imports.Fault.TheVariants.{Missing, Different}
use Rattle.ep_linkable.specs.declared.refusal.LinkRefusal.{LinkRefusal}
use Rattle.ep_linkable.specs.declared.register.Register.{Register}
use Rattle.ep_linkable.specs.declared.unit.Import.{Import}
use Rattle.ep_linkable.specs.declared.unit.LinkUnit.{LinkUnit}
use Rattle.ep_linkable.specs.Units.{StandsAt, IsExporter, IsImported, exports_of, exports_named}
use Rattle.ep_linkable.specs.Units.{units_named, name_of, name_at}
use Rattle.ep_linkable.specs.Refusals.{IsCase, IsRefusal, IsLeastImport, IsMissing, IsDifferent, NoneBefore}
use Rattle.ep_linkable.specs.Registers.{place_under}
use Rattle.ep_linkable.specs.Exporters.{IsExporters}
use Rattle.ep_linkable.specs.Least.{IsLeastAt}
use Rattle.ep_linkable.specs.Faults.{HasFault, HasNoFault, IsFaulty, IsFaultyUnit, interface_of, interface_at}
use Rattle.ep_linkable.specs.Faults.{number_of, refusal_for}
use Rattle.ep_linkable.proofs.Lists.{contains_at, place_of}
use Rattle.ep_linkable.proofs.Counts.{yes_share, sum_has, one_of, one_place}
use Rattle.ep_linkable.proofs.Entries.{same_bytes}
use Rattle.ep_linkable.proofs.OneProgram.{name_read}
use Rattle.ep_linkable.proofs.Cases.{first_case, none_more}

-- ---- one exporter, and one unit of a name

exports_share : (unit : LinkUnit) (interface : List ℕ) → Contains (exports_of unit) interface
    → 0 < count_by (bytes_eq interface) (exports_of unit)
exports_share unit interface has =
    let one : 0 < cond (bytes_eq interface interface) 1 0 = yes_share _ (same_bytes interface interface refl) in
    let all = sum_has (λ x. cond (bytes_eq interface x) 1 0) (exports_of unit) interface has in
    omega (arith, one, all)

pub one_exporter : (units : List LinkUnit) (register : Register) → IsExporters units register → (interface : List ℕ)
    → (a b : LinkUnit) → IsExporter units a interface → IsExporter units b interface → a ≡ b
one_exporter units register is interface a b p q =
    one_of (λ (u : LinkUnit). count_by (bytes_eq interface) (exports_of u)) units (is.once interface) a b p.0 q.0
    (exports_share a interface p.1) (exports_share b interface q.1)

pub one_unit : (units : List LinkUnit) → ((name : List ℕ) → units_named units name < 2) → (a b : LinkUnit)
    → Contains units a → Contains units b → a.name.now ≡ b.name.now → a ≡ b
one_unit units apart a b p q same =
    one_of (λ (u : LinkUnit). cond (bytes_eq a.name.now u.name.now) 1 0) units (apart a.name.now) a b p q
    (yes_share _ (same_bytes a.name.now a.name.now refl)) (yes_share _ (same_bytes a.name.now b.name.now same))

pub one_unit_place : (units : List LinkUnit) → ((name : List ℕ) → units_named units name < 2) → (i k : ℕ)
    (a b : LinkUnit) → StandsAt units i a → StandsAt units k b → a.name.now ≡ b.name.now → i ≡ k
one_unit_place units apart i k a b p q same =
    one_place (λ (u : LinkUnit). cond (bytes_eq a.name.now u.name.now) 1 0) units (apart a.name.now) i k a b p q
    (yes_share _ (same_bytes a.name.now a.name.now refl)) (yes_share _ (same_bytes a.name.now b.name.now same))

-- the unit at the place of an interface exports it
pub found_exporter : (units : List LinkUnit) (register : Register) → IsExporters units register
    → (interface : List ℕ) (place : ℕ) → place_under register interface ≡ Some place
    → (exporter : LinkUnit) × StandsAt units place exporter × IsExporter units exporter interface
found_exporter units register is interface place h =
    let f = is.found interface place h in
    (f.0, f.1, (contains_at units place f.0 f.1, f.2))

-- ---- whether an import has a fault

module _ (units : List LinkUnit) (register : Register) (is : IsExporters units register) (import' : Import) where
  pub missing : place_under register import'.interface.now ≡ None → IsMissing units import'
  missing none exporter e =
      let w = is.whole import'.interface.now exporter e in
      none-some w.0 (sym none ∙ w.1)

  pub not_missing : (place : ℕ) → place_under register import'.interface.now ≡ Some place → IsMissing units import' → ⊥
  not_missing place h none = let f = found_exporter units register is import'.interface.now place h in none f.0 f.2

  pub not_different : place_under register import'.interface.now ≡ None → IsDifferent units import' → ⊥
  not_different none d = missing none d.0 d.1

  pub different : (place : ℕ) (unit : LinkUnit) → place_under register import'.interface.now ≡ Some place
      → StandsAt units place unit → ¬ (unit.interface.now ≡ import'.file.now) → IsDifferent units import'
  different place unit h stands ne =
      let f = found_exporter units register is import'.interface.now place h in
      let same : f.0 ≡ unit = same_Some f.0 unit (sym f.1 ∙ stands) in
      (unit, subst (λ u. IsExporter units u import'.interface.now) same f.2, ne)

  pub differs : (place : ℕ) (unit : LinkUnit) → place_under register import'.interface.now ≡ Some place
      → StandsAt units place unit → IsDifferent units import' → ¬ (unit.interface.now ≡ import'.file.now)
  differs place unit h stands d e =
      let f = found_exporter units register is import'.interface.now place h in
      let same : f.0 ≡ unit = same_Some f.0 unit (sym f.1 ∙ stands) in
      let exporter : f.0 ≡ d.0 = one_exporter units register is import'.interface.now f.0 d.0 f.2 d.1 in
      d.2 (ap (λ (u : LinkUnit). u.interface.now) (sym exporter ∙ same) ∙ e)

  pub place_stands : (place : ℕ) → place_under register import'.interface.now ≡ Some place → place < length units
  place_stands place h = let f = is.found import'.interface.now place h in slice_get_within units place f.0 f.1

not_iff : (r : Bool) (A B : Type 0) → (IsTrue r ↔ A) → (B → ¬ A) → (¬ A → B) → IsTrue (not r) ↔ B
not_iff true A B h away to = (λ e. absurd (clash e), λ b. absurd (away b (h.0 refl)))
  where
    clash : false ≡ true → ⊥
    clash e = cc
not_iff false A B h away to = (λ e. to (λ a. clash (h.1 a)), λ b. refl)
  where
    clash : false ≡ true → ⊥
    clash e = cc

-- whether the exporter's own file is another one, by whether it is the same
pub differs_not : (units : List LinkUnit) (register : Register) → IsExporters units register → (import' : Import)
    → (place : ℕ) (unit : LinkUnit) → place_under register import'.interface.now ≡ Some place
    → StandsAt units place unit → (r : Bool) → (IsTrue r ↔ (unit.interface.now ≡ import'.file.now))
    → IsTrue (not r) ↔ IsDifferent units import'
differs_not units register is import' place unit h stands r same = not_iff r _ (IsDifferent units import') same
    (λ d. differs units register is import' place unit h stands d)
    (λ ne. different units register is import' place unit h stands ne)

-- ---- the least of the imports of a list

pub import_read : (imports : List Import) (k : ℕ) (import' : Import) → k < length imports
    → import' ≡ get_or imports k import' → slice_get imports k ≡ Some import'
import_read imports k import' within read = slice_get_read imports (length imports) k import' refl within read

pub interface_read : (imports : List Import) (k : ℕ) (import' : Import) → slice_get imports k ≡ Some import'
    → interface_at imports k ≡ import'.interface.now
interface_read imports k import' at = ap interface_of at

pub interface_there : (imports : List Import) (k : ℕ) (import' : Import) → k < length imports
    → interface_at imports k ≡ (get_or imports k import').interface.now
interface_there imports k import' within = ap interface_of (slice_get-get_or imports k import' within)

pub name_there : (units : List LinkUnit) (place : ℕ) (unit : LinkUnit) → place < length units
    → name_at units place ≡ (get_or units place unit).name.now
name_there units place unit within = ap name_of (slice_get-get_or units place unit within)

-- an order of names under other names
pub up_at : (x y a b : List ℕ) → x ≡ a → y ≡ b → IsUpTo a b → IsUpTo x y
up_at x y a b ex ey h = subst (λ n. IsUpTo n y) (sym ex) (subst (IsUpTo a) (sym ey) h)

pub not_faulty : (units : List LinkUnit) (fault : Fault) (imports : List Import) (k : ℕ) (import' : Import)
    → slice_get imports k ≡ Some import' → ¬ HasFault units fault import' → ¬ IsFaulty units fault imports k
not_faulty units fault imports k import' at fails is =
    fails (subst (HasFault units fault) (same_Some is.0 import' (sym is.1 ∙ at)) is.2)

-- where no import of a unit has a fault the unit has none, and else it has
pub unit_faulty : (units : List LinkUnit) (fault : Fault) (place : ℕ) (unit : LinkUnit) (imports : List Import) (k : ℕ)
    → StandsAt units place unit → imports ≡ unit.imports
    → IsLeastAt (IsFaulty units fault imports) (interface_at imports) (length imports) (Some k)
    → IsFaultyUnit units fault place
unit_faulty units fault place unit imports k stands e h =
    (unit, stands, k, subst (λ l. IsFaulty units fault l k) e h.1)

pub unit_not_faulty : (units : List LinkUnit) (fault : Fault) (place : ℕ) (unit : LinkUnit) (imports : List Import)
    → StandsAt units place unit → imports ≡ unit.imports
    → IsLeastAt (IsFaulty units fault imports) (interface_at imports) (length imports) None
    → ¬ IsFaultyUnit units fault place
unit_not_faulty units fault place unit imports stands e none is =
    let same : is.0 ≡ unit = same_Some is.0 unit (sym is.1 ∙ stands) in
    let faulty : IsFaulty units fault imports is.2 =
    subst (λ l. IsFaulty units fault l is.2) (ap (λ (u : LinkUnit). u.imports) same ∙ sym e) is.3 in
    none is.2 (slice_get_within imports is.2 faulty.0 faulty.1) faulty

-- ---- the least of all imports

pub no_fault_is : (units : List LinkUnit) (fault : Fault)
    → IsLeastAt (IsFaultyUnit units fault) (name_at units) (length units) None → HasNoFault units fault
no_fault_is units fault none unit has import' has_import h =
    let at = place_of units unit has in
    let k = place_of unit.imports import' has_import in
    none at.0 (slice_get_within units at.0 unit at.1) (unit, at.1, k.0, (import', k.1, h))

module _ (units : List LinkUnit) (fault : Fault) (apart : (name : List ℕ) → units_named units name < 2)
    (place : ℕ) (unit : LinkUnit) (imports : List Import) (k : ℕ) (import' : Import)
    (stands : StandsAt units place unit) (same : imports ≡ unit.imports) (at : slice_get imports k ≡ Some import')
    (least : IsLeastAt (IsFaultyUnit units fault) (name_at units) (length units) (Some place))
    (first : IsLeastAt (IsFaulty units fault imports) (interface_at imports) (length imports) (Some k)) where
  faulty : HasFault units fault import'
  faulty = subst (HasFault units fault) (same_Some first.1.0 import' (sym first.1.1 ∙ at)) first.1.2

  -- any import with this fault is of no lesser unit
  importer_up : (other by : List ℕ) → IsImported units (HasFault units fault) other by → IsUpTo unit.name.now by
  importer_up other by is =
      let p = place_of units is.0 is.1 in
      let j = place_of is.0.imports is.3 is.4 in
      subst (IsUpTo unit.name.now) (name_read units p.0 is.0 p.1 ∙ is.2)
      (subst (λ n. IsUpTo n (name_at units p.0)) (name_read units place unit stands)
      (least.2 p.0 (slice_get_within units p.0 is.0 p.1) (is.0, p.1, j.0, (is.3, j.1, is.6))))

  -- and of this unit of no lesser interface
  interface_up : (other : List ℕ) → IsImported units (HasFault units fault) other unit.name.now
      → IsUpTo import'.interface.now other
  interface_up other is =
      let one : is.0 ≡ unit = one_unit units apart is.0 unit is.1 (contains_at units place unit stands) is.2 in
      let has : Contains imports is.3 =
      subst (λ l. Contains l is.3) (ap (λ (u : LinkUnit). u.imports) one ∙ sym same) is.4 in
      let j = place_of imports is.3 has in
      subst (IsUpTo import'.interface.now) (interface_read imports j.0 is.3 j.1 ∙ is.5)
      (subst (λ n. IsUpTo n (interface_at imports j.0)) (interface_read imports k import' at)
      (first.2 j.0 (slice_get_within imports j.0 is.3 j.1) (is.3, j.1, is.6)))

  pub least_import : IsLeastImport units (HasFault units fault) import'.interface.now unit.name.now
  least_import = record {
    imported = (
      unit,
      contains_at units place unit stands,
      refl,
      import',
      subst (λ l. Contains l import') same (contains_at imports k import' at),
      refl,
      faulty,
    );
    importer_least = importer_up;
    interface_least = interface_up;
  }

-- the refusal for a fault
pub fault_case : (units : List LinkUnit) (fault : Fault) (interface importer : List ℕ) (refusal : LinkRefusal)
    → IsLeastImport units (HasFault units fault) interface importer → refusal ≡ refusal_for fault interface importer
    → IsCase units (number_of fault) refusal
fault_case units Missing interface importer refusal h e =
    subst (IsCase units 5) (sym e) (inr (h, refl))
fault_case units Different interface importer refusal h e =
    subst (IsCase units 6) (sym e) (inr (h, refl))

-- where no import has a fault, its refusal doesn't hold
pub none_missing : (units : List LinkUnit) → HasNoFault units Missing → NoneBefore units 5 → NoneBefore units 6
none_missing units fails none = none_more units 5 6 refl none (λ h.
    let i = h.2.imported in fails i.0 i.1 i.3 i.4 i.6)

pub none_different : (units : List LinkUnit) → HasNoFault units Different → NoneBefore units 6 → NoneBefore units 7
none_different units fails none = none_more units 6 7 refl none (λ h.
    let i = h.2.imported in fails i.0 i.1 i.3 i.4 i.6)

pub none_twice : (units : List LinkUnit) → ((name : List ℕ) → units_named units name < 2) → NoneBefore units 3
    → NoneBefore units 4
none_twice units few none = none_more units 3 4 refl none (λ h.
    let low : units_named units h.0 < 2 = few h.0 in
    let two : 1 < units_named units h.0 = h.1.0 in
    absurd (omega (arith, low, two)))

pub none_exported : (units : List LinkUnit) → ((name : List ℕ) → exports_named units name < 2) → NoneBefore units 4
    → NoneBefore units 5
none_exported units few none = none_more units 4 5 refl none (λ h.
    let low : exports_named units h.0 < 2 = few h.0 in
    let two : 1 < exports_named units h.0 = h.1.0 in
    absurd (omega (arith, low, two)))

pub none_fault : (units : List LinkUnit) (fault : Fault) → HasNoFault units fault → NoneBefore units (number_of fault)
    → NoneBefore units (number_of fault + 1)
none_fault units Missing fails none = none_missing units fails none
none_fault units Different fails none = none_different units fails none

-- the least unit with a fault has an import with it
pub not_all_faultless : (units : List LinkUnit) (fault : Fault) (place : ℕ) (unit : LinkUnit) (imports : List Import)
    → StandsAt units place unit → imports ≡ unit.imports
    → IsLeastAt (IsFaultyUnit units fault) (name_at units) (length units) (Some place)
    → IsLeastAt (IsFaulty units fault imports) (interface_at imports) (length imports) None → ⊥
not_all_faultless units fault place unit imports stands e least none =
    unit_not_faulty units fault place unit imports stands e none least.1

-- the refusal for it
pub fault_refused : (units : List LinkUnit) (fault : Fault) (apart : (name : List ℕ) → units_named units name < 2)
    (place : ℕ) (unit : LinkUnit) (imports : List Import) (k : ℕ) (import' : Import) (refusal : LinkRefusal)
    → StandsAt units place unit → imports ≡ unit.imports → slice_get imports k ≡ Some import'
    → IsLeastAt (IsFaultyUnit units fault) (name_at units) (length units) (Some place)
    → IsLeastAt (IsFaulty units fault imports) (interface_at imports) (length imports) (Some k)
    → refusal ≡ refusal_for fault import'.interface.now unit.name.now → NoneBefore units (number_of fault)
    → IsRefusal units refusal
fault_refused units fault apart place unit imports k import' refusal stands same at least first e none =
    first_case units (number_of fault) refusal none
    (fault_case units fault import'.interface.now unit.name.now refusal
    (least_import units fault apart place unit imports k import' stands same at least first) e)
