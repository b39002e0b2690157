-- For `supply_order` and the laws: systems of units that supply one another alike have the same orders and circles.
use Rattle.std.proofs.Common.{◌≡◌, ℕ, ◌<◌, ◌^◌, ◌+◌, Bool, true, false, List, [], ◌∷◌, ◌++◌, length, map, slice_get}
use Rattle.std.proofs.Common.{Option, Some, None, inr, refl, sym, subst, ap, ◌∙◌, arith, if◌then◌else◌, take, get_or}
use Rattle.std.specs.List.{All, Contains}
use Rattle.std.specs.Option.{option_map, unwrap_or}
use Rattle.std.specs.Str.{bytes_eq}
use Rattle.std.proofs.lemmas.Option.{same_Some, slice_get-map}
use Rattle.std.proofs.lemmas.List.{length-map, map_more}
use Rattle.std.proofs.lemmas.List.Elements.{All-contains}
use Rattle.ep_order.specs.declared.dependent.Dependent.{Dependent}
use Rattle.ep_order.specs.Systems.{NamedUnit, IsModule, IsProgram, Supplies}
use Rattle.ep_order.specs.Orders.{IsReady, EachIsNext, IsOrder}
use Rattle.ep_order.specs.Circles.{Follows, IsCircle}
use Rattle.ep_order.specs.Dependents as dependent
use Rattle.ep_order.specs.Dependents.{IsActivation, IsSystem, IsModuleAt, system_of}
use Rattle.ep_order.specs.declared.dependent.Activation.TheVariants.{Ordered, Circle}
use Rattle.ep_order.proofs.public.Laws.{circle_unordered}
use Rattle.ep_linkable.specs.Refusals.{IsRefusal, NoneBefore}
use Rattle.ep_linkable.specs.declared.refusal.LinkRefusal.TheVariants.{Circle as Circled}
use Rattle.ep_linkable.proofs.Cases.{none_more}
use Rattle.ep_linkable.specs.declared.imports.Fault.TheVariants.{Missing}
use Rattle.ep_linkable.specs.declared.register.Register.{Register}
use Rattle.ep_linkable.specs.declared.unit.Import.{Import}
use Rattle.ep_linkable.specs.declared.unit.LinkUnit.{LinkUnit}
use Rattle.ep_linkable.specs.Units.{StandsAt, IsExporter, exports_of, units_named, name_of, name_at, names_at}
use Rattle.ep_linkable.specs.Supplies.{has_export, supplies, suppliers_of, named, system}
use Rattle.ep_linkable.specs.Registers.{place_under}
use Rattle.ep_linkable.specs.Exporters.{IsExporters}
use Rattle.ep_linkable.specs.Faults.{HasNoFault, HasOneProgram, AreFound, dependent_of, supplier_place}
use Rattle.ep_linkable.proofs.Lists.{contains_map, contains_map_back, all_from}
use Rattle.ep_linkable.proofs.Lists.{any_found, any_from, filter_found, filter_from}
use Rattle.ep_linkable.proofs.Entries.{same_bytes, bytes_same}
use Rattle.ep_linkable.proofs.Faults.{found_exporter, one_exporter, one_unit_place}

-- ---- systems that are alike

-- each unit of the first system is one of the second by its name, its kind and its suppliers
abbrev pub IsWithin : List NamedUnit → List NamedUnit → Type 0
IsWithin units others = (unit : NamedUnit) → Contains units unit → (other : NamedUnit) × Contains others other
    × (other.name ≡ unit.name) × (other.is_program ≡ unit.is_program)
    × ((supplier : List ℕ) → Contains unit.suppliers supplier → Contains other.suppliers supplier)

pub supplies_within : (units others : List NamedUnit) → IsWithin units others → (a b : List ℕ) → Supplies units a b
    → Supplies others a b
supplies_within units others there a b s =
    let t = there s.0 s.1 in
    (t.0, t.1, t.2 ∙ s.2, t.4 a s.3)

module _ (units others : List NamedUnit) (there : IsWithin units others) (back : IsWithin others units) where
  module_back : (name : List ℕ) → IsModule others name → IsModule units name
  module_back name m = let t = back m.0 m.1 in (t.0, t.1, t.2 ∙ m.2, t.3 ∙ m.3)

  program_back : (name : List ℕ) → IsProgram others name → IsProgram units name
  program_back name m = let t = back m.0 m.1 in (t.0, t.1, t.2 ∙ m.2, t.3 ∙ m.3)

  ready_alike : (placed : List (List ℕ)) (name : List ℕ) → IsReady units placed name → IsReady others placed name
  ready_alike placed name h = record {
    stands = (let t = there h.stands.0 h.stands.1 in (t.0, t.1, t.2 ∙ h.stands.2));
    unplaced = h.unplaced;
    supplied = λ supplier s. h.supplied supplier (supplies_within others units back supplier name s);
    last = λ p other m. h.last (program_back name p) other (module_back other m);
  }

each_alike : (units others : List NamedUnit) → IsWithin units others → IsWithin others units
    → (placed order : List (List ℕ)) → EachIsNext units placed order → EachIsNext others placed order
each_alike units others there back placed [] h = tt
each_alike units others there back placed (x ∷ xs) h = (
  record {
    ready = ready_alike units others there back placed x h.0.ready;
    least = λ other r. h.0.least other (ready_alike others units back there placed other r);
  },
  each_alike units others there back (placed ++ x ∷ []) xs h.1,
)

-- systems that are alike have the same order
pub order_alike : (units others : List NamedUnit) → IsWithin units others → IsWithin others units
    → (order : List (List ℕ)) → IsOrder units order → IsOrder others order
order_alike units others there back order h = record {
  each = each_alike units others there back [] order h.each;
  whole = all_from (λ (u : NamedUnit). Contains order u.name) others (λ unit has.
      let t = back unit has in
      subst (Contains order) t.2 (All-contains (λ (u : NamedUnit). Contains order u.name) units t.0 h.whole t.1));
}

follows_all : {X : Type 0} (R S : X → X → Type 0) → ((a b : X) → R a b → S a b) → (xs : List X) → Follows R xs
    → Follows S xs
follows_all R S into [] h = tt
follows_all R S into (x ∷ []) h = tt
follows_all R S into (x ∷ y ∷ ys) h = (into x y h.0, follows_all R S into (y ∷ ys) h.1)

-- and the same circles
pub circle_alike : (units others : List NamedUnit) → IsWithin units others → (circle : List (List ℕ))
    → IsCircle units circle → IsCircle others circle
circle_alike units others there [] h = h
circle_alike units others there (first ∷ rest) h = record {
  apart = h.apart;
  supplied = follows_all (Supplies units) (Supplies others) (supplies_within units others there)
      (first ∷ rest ++ first ∷ []) h.supplied;
  least = h.least;
}

-- ---- who supplies whom

pub supplier_from : (units : List LinkUnit) (unit exporter : LinkUnit) (import' : Import)
    → Contains unit.imports import'
    → IsExporter units exporter import'.interface.now → Contains (suppliers_of units unit) exporter.name.now
supplier_from units unit exporter import' has is =
    let exports : has_export exporter import'.interface.now ≡ true =
    any_from (bytes_eq import'.interface.now) (exports_of exporter) import'.interface.now is.1
    (same_bytes import'.interface.now import'.interface.now refl) in
    let yes : supplies exporter unit ≡ true =
    any_from (λ (m : Import). has_export exporter m.interface.now) unit.imports import' has exports in
    contains_map (λ (u : LinkUnit). u.name.now) _ exporter
    (filter_from (λ (u : LinkUnit). supplies u unit) units exporter is.0 yes)

pub supplier_found : (units : List LinkUnit) (unit : LinkUnit) (name : List ℕ)
    → Contains (suppliers_of units unit) name
    → (exporter : LinkUnit) × (import' : Import) × Contains unit.imports import'
    × IsExporter units exporter import'.interface.now × (exporter.name.now ≡ name)
supplier_found units unit name has =
    let r = contains_map_back (λ (u : LinkUnit). u.name.now) _ name has in
    let f = filter_found (λ (u : LinkUnit). supplies u unit) units r.0 r.1 in
    let m = any_found (λ (m : Import). has_export r.0 m.interface.now) unit.imports f.1 in
    let x = any_found (bytes_eq m.0.interface.now) (exports_of r.0) m.2 in
    (r.0, m.0, m.1, (f.0, subst (Contains (exports_of r.0)) (sym (bytes_same m.0.interface.now x.0 x.2)) x.1), r.2)

-- systems of the same units are alike
pub system_within : (units others : List LinkUnit) → ((unit : LinkUnit) → Contains units unit → Contains others unit)
    → IsWithin (system units) (system others)
system_within units others there x has =
    let r = contains_map_back (named units) units x has in (
      named others r.0,
      contains_map (named others) others r.0 (there r.0 r.1),
      ap (λ (n : NamedUnit). n.name) r.2,
      ap (λ (n : NamedUnit). n.is_program) r.2,
      λ supplier c.
          let f = supplier_found units r.0 supplier
          (subst (λ (n : NamedUnit). Contains n.suppliers supplier) (sym r.2) c) in
          subst (Contains (suppliers_of others r.0)) f.4
          (supplier_from others r.0 f.0 f.1 f.2 (there f.0 f.3.0, f.3.1)),
    )

-- ---- the units as they are given to `activation_order`

module _ (units : List LinkUnit) (register : Register) (is : IsExporters units register)
    (found : HasNoFault units Missing) where
  abbrev pub dependents : List Dependent
  dependents = map (dependent_of register) units

  -- each import has a place
  import_place : (unit : LinkUnit) → Contains units unit → (import' : Import) → Contains unit.imports import'
      → (place : ℕ) × (place_under register import'.interface.now ≡ Some place)
  import_place unit has import' has_import = go (place_under register import'.interface.now) refl
    where
      go : (o : Option ℕ) → place_under register import'.interface.now ≡ o
          → (place : ℕ) × (o ≡ Some place)
      go (Some place) e = (place, refl)
      go None e = absurd (found unit has import' has_import (λ exporter x.
          let w = is.whole import'.interface.now exporter x in
          let clash : None ≡ Some w.0 = sym e ∙ w.1 in
          cc))

  pub are_found : All (λ (unit : LinkUnit). AreFound register unit.imports) units
  are_found = all_from (λ (unit : LinkUnit). AreFound register unit.imports) units (λ unit has.
      all_from (λ (m : Import). (place : ℕ) × (place_under register m.interface.now ≡ Some place)) unit.imports
      (import_place unit has))

  -- the exporter of an import stands at its place
  exporter_at : (unit : LinkUnit) → Contains units unit → (import' : Import) → Contains unit.imports import'
      → (exporter : LinkUnit) × StandsAt units (supplier_place register import') exporter
      × IsExporter units exporter import'.interface.now
  exporter_at unit has import' has_import =
      let p = import_place unit has import' has_import in
      let f = found_exporter units register is import'.interface.now p.0 p.1 in
      (f.0, subst (λ o. StandsAt units (unwrap_or o 0) f.0) (sym p.1) f.1, f.2)

  pub stands_dependent : (place : ℕ) (unit : LinkUnit) → StandsAt units place unit
      → slice_get dependents place ≡ Some (dependent_of register unit)
  stands_dependent place unit stands =
      slice_get-map (dependent_of register) units place ∙ ap (option_map (dependent_of register)) stands

  stands_unit : (place : ℕ) (d : Dependent) → slice_get dependents place ≡ Some d
      → (unit : LinkUnit) × StandsAt units place unit × (dependent_of register unit ≡ d)
  stands_unit place d h = go (slice_get units place) refl (sym (slice_get-map (dependent_of register) units place) ∙ h)
    where
      go : (o : Option LinkUnit) → slice_get units place ≡ o → option_map (dependent_of register) o ≡ Some d
          → (unit : LinkUnit) × StandsAt units place unit × (dependent_of register unit ≡ d)
      go None e h = cc
      go (Some unit) e h = (unit, e, same_Some (dependent_of register unit) d h)

  name_same : (place : ℕ) → dependent.name_at dependents place ≡ name_at units place
  name_same place =
      ap dependent.name_of (slice_get-map (dependent_of register) units place) ∙ go (slice_get units place)
    where
      go : (o : Option LinkUnit) → dependent.name_of (option_map (dependent_of register) o) ≡ name_of o
      go None = refl
      go (Some unit) = refl

  pub names_same : (places : List ℕ) → dependent.names_at dependents places ≡ names_at units places
  names_same [] = refl
  names_same (p ∷ places) =
      ap (λ n. n ∷ dependent.names_at dependents places) (name_same p)
      ∙ ap (λ ns. name_at units p ∷ ns) (names_same places)

  pub dependents_within : IsWithin (system_of dependents) (system units)
  dependents_within x has =
      let r = contains_map_back (dependent.named dependents) dependents x has in
      let u = contains_map_back (dependent_of register) units r.0 r.1 in
      let same : dependent.named dependents (dependent_of register u.0) ≡ x =
      ap (dependent.named dependents) u.2 ∙ r.2 in (
        named units u.0,
        contains_map (named units) units u.0 u.1,
        ap (λ (n : NamedUnit). n.name) same,
        ap (λ (n : NamedUnit). n.is_program) same,
        λ supplier c.
            let p = contains_map_back (dependent.name_at dependents) (map (supplier_place register) u.0.imports)
            supplier
            (subst (λ (n : NamedUnit). Contains n.suppliers supplier) (sym same) c) in
            let m = contains_map_back (supplier_place register) u.0.imports p.0 p.1 in
            let e = exporter_at u.0 u.1 m.0 m.1 in
            let at : e.0.name.now ≡ supplier =
            sym (ap name_of e.1) ∙ ap (name_at units) m.2 ∙ sym (name_same p.0) ∙ p.2 in
            subst (Contains (suppliers_of units u.0)) at (supplier_from units u.0 e.0 m.0 m.1 e.2),
      )

  pub within_dependents : IsWithin (system units) (system_of dependents)
  within_dependents x has =
      let u = contains_map_back (named units) units x has in (
        dependent.named dependents (dependent_of register u.0),
        contains_map (dependent.named dependents) dependents (dependent_of register u.0)
            (contains_map (dependent_of register) units u.0 u.1),
        ap (λ (n : NamedUnit). n.name) u.2,
        ap (λ (n : NamedUnit). n.is_program) u.2,
        λ supplier c.
            let f = supplier_found units u.0 supplier
            (subst (λ (n : NamedUnit). Contains n.suppliers supplier) (sym u.2) c) in
            let e = exporter_at u.0 u.1 f.1 f.2 in
            let one : e.0 ≡ f.0 = one_exporter units register is f.1.interface.now e.0 f.0 e.2 f.3 in
            let at : dependent.name_at dependents (supplier_place register f.1) ≡ supplier =
            name_same (supplier_place register f.1) ∙ ap name_of e.1
            ∙ ap (λ (v : LinkUnit). v.name.now) one ∙ f.4 in
            subst (Contains (dependent.names_at dependents (map (supplier_place register) u.0.imports))) at
            (contains_map (dependent.name_at dependents) _ (supplier_place register f.1)
            (contains_map (supplier_place register) u.0.imports f.1 f.2)),
      )

  module_is : (exporter : LinkUnit) (interface : List ℕ) → Contains (exports_of exporter) interface
      → exporter.is_program ≡ false
  module_is exporter interface has = go exporter.is_program refl has
    where
      go : (b : Bool) → exporter.is_program ≡ b
          → Contains (if b then [] else exporter.exports.now) interface → exporter.is_program ≡ false
      go false e h = e
      go true e h = absurd (omega (arith, h.1))

  pub dependents_system : length units < 2 ^ 32 → HasOneProgram units
      → ((name : List ℕ) → units_named units name < 2) → IsSystem dependents
  dependents_system few one apart = record {
    few = subst (λ n. n < 2 ^ 32) (sym (length-map units (dependent_of register))) few;
    apart = λ i k a b at bt same.
        let x = stands_unit i a at in
        let y = stands_unit k b bt in
        one_unit_place units apart i k x.0 y.0 x.1 y.1
        (ap (λ (d : Dependent). d.name.now) x.2 ∙ same ∙ sym (ap (λ (d : Dependent). d.name.now) y.2));
    one_program = λ i k a b at bt p q.
        let x = stands_unit i a at in
        let y = stands_unit k b bt in
        one.2 i (x.0, x.1, ap (λ (d : Dependent). d.is_program) x.2 ∙ p)
        ∙ sym (one.2 k (y.0, y.1, ap (λ (d : Dependent). d.is_program) y.2 ∙ q));
    modules = all_from (λ (d : Dependent). All (IsModuleAt dependents) d.suppliers) dependents (λ d has.
        let u = contains_map_back (dependent_of register) units d has in
        subst (λ (x : Dependent). All (IsModuleAt dependents) x.suppliers) u.2
        (all_from (IsModuleAt dependents) (map (supplier_place register) u.0.imports) (λ place c.
        let m = contains_map_back (supplier_place register) u.0.imports place c in
        let e = exporter_at u.0 u.1 m.0 m.1 in
        subst (IsModuleAt dependents) m.2 (
          dependent_of register e.0,
          stands_dependent (supplier_place register m.0) e.0 e.1,
          module_is e.0 m.0.interface.now e.2.1,
        ))));
  }

  -- the answers of `activation_order`, by the names of units
  pub ordered : (list : List Dependent) → list ≡ dependents → (places : List ℕ) → IsActivation list (Ordered places)
      → IsOrder (system units) (names_at units places)
  ordered list e places h =
      let order : IsOrder (system_of dependents) (dependent.names_at dependents places) =
      subst (λ l. IsOrder (system_of l) (dependent.names_at l places)) e h.1 in
      subst (IsOrder (system units)) (names_same places)
      (order_alike (system_of dependents) (system units) dependents_within within_dependents
      (dependent.names_at dependents places) order)

  pub circled : (list : List Dependent) → list ≡ dependents → (places : List ℕ) → IsActivation list (Circle places)
      → IsCircle (system units) (names_at units places)
  circled list e places h =
      let circle : IsCircle (system_of dependents) (dependent.names_at dependents places) =
      subst (λ l. IsCircle (system_of l) (dependent.names_at l places)) e h.1 in
      subst (IsCircle (system units)) (names_same places)
      (circle_alike (system_of dependents) (system units) dependents_within
      (dependent.names_at dependents places) circle)

  pub places_within : (list : List Dependent) → list ≡ dependents → (places : List ℕ)
      → All (λ place. place < length list) places → All (λ place. place < length units) places
  places_within list e places h =
      subst (λ n. All (λ place. place < n) places) (ap length e ∙ length-map units (dependent_of register)) h

-- one more name of a unit
pub names_more : (units : List LinkUnit) (places : List ℕ) (i : ℕ) (names : List (List ℕ)) (name : List ℕ)
    → i < length places → names ≡ names_at units (take i places) → name ≡ name_at units (get_or places i 0)
    → names ++ name ∷ [] ≡ names_at units (take (i + 1) places)
names_more units places i names name within h e =
    ap (λ ns. ns ++ name ∷ []) h ∙ ap (λ n. names_at units (take i places) ++ n ∷ []) e
    ∙ sym (map_more (name_at units) places i 0 within)

-- with an order there is no circle
pub none_circle : (units : List LinkUnit) (order : List (List ℕ)) → IsOrder (system units) order → NoneBefore units 7
    → NoneBefore units 8
none_circle units order is none = none_more units 7 8 refl none (λ h. circle_unordered (system units) h.0 order h.1 is)

pub circle_refused : (units : List LinkUnit) (names circle : List (List ℕ)) → names ≡ circle
    → IsCircle (system units) circle → NoneBefore units 7 → IsRefusal units (Circled names)
circle_refused units names circle e h none = inr (subst (IsCircle (system units)) (sym e) h, none)
