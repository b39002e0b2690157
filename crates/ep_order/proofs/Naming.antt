-- Units by their places in a list, and by their names in its system.
use Rattle.std.proofs.Common.{◌≡◌, ℕ, ◌<◌, false, true, List, length, Some, get_or, slice_get, refl, sym, subst, ◌∙◌, ap}
use Rattle.std.specs.List.{All, Contains}
use Rattle.std.proofs.lemmas.Option.{same_Some, slice_get_within, slice_get_read}
use Rattle.ep_order.specs.declared.dependent.Dependent.{Dependent}
use Rattle.ep_order.specs.Systems.{NamedUnit, IsModule, IsProgram, Supplies}
use Rattle.ep_order.specs.Dependents.{StandsAt, IsModuleAt, IsProgramAt, name_of, name_at, names_at, named, system_of, IsSystem}
use Rattle.ep_order.specs.Placings.{SuppliesAt}
use Rattle.ep_order.proofs.Lists.{contains_map, contains_map_back, contains_at, place_of, all_at}

-- the unit that the code reads at a place
pub unit_at : (units : List Dependent) (place : ℕ) (unit : Dependent) → IsModuleAt units place → unit ≡ get_or units place unit → StandsAt units place unit × (unit.is_program ≡ false)
unit_at units place unit module' read =
    let stands : StandsAt units place unit = slice_get_read units (length units) place unit refl (slice_get_within units place module'.0 module'.1) read in
    (stands, ap (λ (u : Dependent). u.is_program) (same_Some _ _ (sym stands ∙ module'.1)) ∙ module'.2)

pub module_within : (units : List Dependent) (place : ℕ) → IsModuleAt units place → place < length units
module_within units place module' = slice_get_within units place module'.0 module'.1

-- the suppliers of a unit are modules of the list
pub supplier_module : (units : List Dependent) → IsSystem units → (supplier place : ℕ) → SuppliesAt units supplier place → IsModuleAt units supplier
supplier_module units system supplier place at = go (place_of at.0.suppliers supplier at.2)
  where
    go : (k : ℕ) × (slice_get at.0.suppliers k ≡ Some supplier) → IsModuleAt units supplier
    go (k, e) = all_at (IsModuleAt units) at.0.suppliers k supplier (all_at (λ (unit : Dependent). All (IsModuleAt units) unit.suppliers) units place at.0 system.modules at.1) e

pub suppliers_within : (units : List Dependent) → IsSystem units → (place : ℕ) (unit : Dependent) → StandsAt units place unit → (suppliers : List ℕ) → suppliers ≡ unit.suppliers → (limit : ℕ) → limit ≡ length units → All (λ supplier. supplier < limit) suppliers
suppliers_within units system place unit stands suppliers e limit same =
    subst (λ n. All (λ supplier. supplier < n) suppliers) (sym same)
    (subst (All (λ supplier. supplier < length units)) (sym e)
    (λ k d within. module_within units _ (all_at (λ (u : Dependent). All (IsModuleAt units) u.suppliers) units place unit system.modules stands k d within)))

-- two places of one name are one
pub one_place : (units : List Dependent) → IsSystem units → (i k : ℕ) (a b : Dependent) → StandsAt units i a → StandsAt units k b → name_at units i ≡ name_at units k → i ≡ k
one_place units system i k a b at bt e = system.apart i k a b at bt (sym (ap name_of at) ∙ e ∙ ap name_of bt)

system_has : (units : List Dependent) (place : ℕ) (unit : Dependent) → StandsAt units place unit → Contains (system_of units) (named units unit)
system_has units place unit stands = contains_map (named units) units unit (contains_at units place unit stands)

-- where a unit of the system stands
pub unit_place : (units : List Dependent) (u : NamedUnit) → Contains (system_of units) u → (place : ℕ) × (unit : Dependent) × StandsAt units place unit × (named units unit ≡ u)
unit_place units u has =
    let r = contains_map_back (named units) units u has in
    let p = place_of units r.0 r.1 in
    (p.0, r.0, p.1, r.2)

pub has_name : (units : List Dependent) (place : ℕ) (unit : Dependent) → StandsAt units place unit → (u : NamedUnit) × Contains (system_of units) u × (u.name ≡ name_at units place)
has_name units place unit stands = (named units unit, system_has units place unit stands, sym (ap name_of stands))

pub supplies_names : (units : List Dependent) (a b : ℕ) → SuppliesAt units a b → Supplies (system_of units) (name_at units a) (name_at units b)
supplies_names units a b at = (named units at.0, system_has units b at.0 at.1, sym (ap name_of at.1), contains_map (name_at units) at.0.suppliers a at.2)

pub supplies_places : (units : List Dependent) → IsSystem units → (name : List ℕ) (place : ℕ) (unit : Dependent) → StandsAt units place unit → Supplies (system_of units) name (name_at units place) → (a : ℕ) × SuppliesAt units a place × (name_at units a ≡ name)
supplies_places units system name place unit stands h = go (unit_place units h.0 h.1)
  where
    go : (k : ℕ) × (d : Dependent) × StandsAt units k d × (named units d ≡ h.0) → (a : ℕ) × SuppliesAt units a place × (name_at units a ≡ name)
    go (k, d, sd, e) =
        let same : k ≡ place = one_place units system k place d unit sd stands (ap name_of sd ∙ ap (λ (u : NamedUnit). u.name) e ∙ h.2) in
        let has : Contains (names_at units d.suppliers) name = subst (λ (u : NamedUnit). Contains u.suppliers name) (sym e) h.3 in
        let r = contains_map_back (name_at units) d.suppliers name has in
        (r.0, (d, subst (λ p. StandsAt units p d) same sd, r.1), r.2)

pub module_name : (units : List Dependent) (place : ℕ) → IsModuleAt units place → IsModule (system_of units) (name_at units place)
module_name units place m = (named units m.0, system_has units place m.0 m.1, sym (ap name_of m.1), m.2)

pub program_name : (units : List Dependent) (place : ℕ) → IsProgramAt units place → IsProgram (system_of units) (name_at units place)
program_name units place m = (named units m.0, system_has units place m.0 m.1, sym (ap name_of m.1), m.2)

pub module_place : (units : List Dependent) (name : List ℕ) → IsModule (system_of units) name → (place : ℕ) × IsModuleAt units place × (name_at units place ≡ name)
module_place units name h = go (unit_place units h.0 h.1)
  where
    go : (k : ℕ) × (d : Dependent) × StandsAt units k d × (named units d ≡ h.0) → (place : ℕ) × IsModuleAt units place × (name_at units place ≡ name)
    go (k, d, sd, e) = (k, (d, sd, ap (λ (u : NamedUnit). u.is_program) e ∙ h.3), ap name_of sd ∙ ap (λ (u : NamedUnit). u.name) e ∙ h.2)

pub program_place : (units : List Dependent) (name : List ℕ) → IsProgram (system_of units) name → (place : ℕ) × IsProgramAt units place × (name_at units place ≡ name)
program_place units name h = go (unit_place units h.0 h.1)
  where
    go : (k : ℕ) × (d : Dependent) × StandsAt units k d × (named units d ≡ h.0) → (place : ℕ) × IsProgramAt units place × (name_at units place ≡ name)
    go (k, d, sd, e) = (k, (d, sd, ap (λ (u : NamedUnit). u.is_program) e ∙ h.3), ap name_of sd ∙ ap (λ (u : NamedUnit). u.name) e ∙ h.2)

-- a name that stands among the names of modules that are placed is that of one of them
pub placed_place : (units : List Dependent) → IsSystem units → (placed : List ℕ) → ((place : ℕ) → Contains placed place → IsModuleAt units place) → (place : ℕ) (unit : Dependent) → StandsAt units place unit → Contains (names_at units placed) (name_at units place) → Contains placed place
placed_place units system placed modules place unit stands has =
    let r = contains_map_back (name_at units) placed (name_at units place) has in
    let m = modules r.0 r.1 in
    subst (Contains placed) (one_place units system r.0 place m.0 unit m.1 stands r.2) r.1

-- ---- the unit that a loop reads at a place

pub stands_read : (units : List Dependent) (place : ℕ) (unit : Dependent) → place < length units → unit ≡ get_or units place unit → StandsAt units place unit
stands_read units place unit within read = slice_get_read units (length units) place unit refl within read

pub name_read : (units : List Dependent) (place : ℕ) (unit : Dependent) → place < length units → unit ≡ get_or units place unit → name_at units place ≡ unit.name.now
name_read units place unit within read = ap name_of (stands_read units place unit within read)

pub program_read : (units : List Dependent) (place : ℕ) (unit : Dependent) → IsProgramAt units place → unit ≡ get_or units place unit → unit.is_program ≡ true
program_read units place unit p read = ap (λ (u : Dependent). u.is_program) (same_Some _ _ (sym (stands_read units place unit (slice_get_within units place p.0 p.1) read) ∙ p.1)) ∙ p.2

pub module_read : (units : List Dependent) (place : ℕ) (unit : Dependent) → IsModuleAt units place → unit ≡ get_or units place unit → unit.is_program ≡ false
module_read units place unit m read = (unit_at units place unit m read).1

-- a unit that stands at a place is the one that is read there
pub read_is : (units : List Dependent) (k place : ℕ) (stands unit : Dependent) → StandsAt units k stands → k ≡ place → unit ≡ get_or units place unit → stands ≡ unit
read_is units k place stands unit at e read =
    let here : StandsAt units place stands = subst (λ p. StandsAt units p stands) e at in
    same_Some stands unit (sym here ∙ stands_read units place unit (slice_get_within units place stands here) read)
