-- A variable that may be named is of the same types where the units are laid out.
use Rattle.std.proofs.Common.{◌≡◌, ℕ, zero, suc, Bool, true, false, if◌then◌else◌, List, [], ◌∷◌, Some, slice_get, bytes_eq, refl, sym, ap, ◌∙◌, subst, arith}
use Rattle.std.proofs.lemmas.Option.{same_Some}
use Rattle.std.proofs.lemmas.Slice.Eq.{bytes_eq-Decides}
use Rattle.ep_simulation.specs.Joined.{HaveOwnNames, HaveSameTypes, IsFound}
use Rattle.ep_simulation.specs.Layouts.{Layout, layout_of, types_among, variable_among}
use Rattle.ep_simulation.specs.Matching.{HasType, HasTypeUnder}
use Rattle.ep_simulation.specs.Scene.{AreLaidOut, IsLaidOut}
use Rattle.ep_meaning.specs.Units.{GivenUnit, declared_of, variable_given}
use Rattle.ep_typed.specs.Denoters.{IsInstance}
use Rattle.ep_typed.specs.Routines.{unit_variables}
use Rattle.ep_typed.specs.Viewed.{denoter_of}
use Rattle.ep_typed.specs.declared.unit.Unit.{Unit as TypedUnit}
use Rattle.ep_typed.specs.declared.unit.UnitType.{UnitType}
use Rattle.ep_typed.specs.declared.unit.UnitVariable.{UnitVariable}
use Rattle.ep_values.specs.TypeValues.{TypeValue}

module _ {layout : Layout} {types : List UnitType} {unit : List ℕ} {k : ℕ} {v : UnitVariable} (its : IsLaidOut layout types unit k v) (t : TypeValue) where
  -- the variable of the unit has the type of the one that is named
  pub laid_type : HasTypeUnder types v t → HasType layout unit its.variable t
  laid_type h = (h.0, its.into h.0 h.1, h.2)

  -- and so has what the unit has by this number
  pub type_laid : HasTypeUnder types v t → (w : UnitVariable) → layout.variables unit k ≡ Some w → HasType layout unit w t
  type_laid h w e = subst (λ (x : UnitVariable). HasType layout unit x t) (same_Some its.variable w (sym its.there ∙ e)) (laid_type h)

-- ---- units among others

-- what the only unit of a name among units has, the layout has by that name
among : (us : List TypedUnit) (u : TypedUnit) (k : ℕ) (unit : List ℕ) → slice_get us k ≡ Some u → bytes_eq u.name unit ≡ true
    → ((i : ℕ) (x : TypedUnit) → slice_get us i ≡ Some x → bytes_eq x.name unit ≡ true → i ≡ k)
    → ((number : ℕ) → variable_among us unit number ≡ slice_get (unit_variables u) number) × (types_among us unit ≡ u.types)
among [] u k unit there named alone = cc
among (x ∷ us) u zero unit there named alone =
    let same : x ≡ u = same_Some x u there in
    let is : bytes_eq x.name unit ≡ true = ap (λ (y : TypedUnit). bytes_eq y.name unit) same ∙ named in (
      (λ number. ap (λ b. if b then slice_get (unit_variables x) number else variable_among us unit number) is ∙ ap (λ (y : TypedUnit). slice_get (unit_variables y) number) same),
      ap (λ b. if b then x.types else types_among us unit) is ∙ ap (λ (y : TypedUnit). y.types) same,
    )
among (x ∷ us) u (suc k) unit there named alone = go (bytes_eq x.name unit) refl (among us u k unit there named (λ i y at is. omega (arith, alone (suc i) y at is)))
  where
    go : (b : Bool) → bytes_eq x.name unit ≡ b → ((number : ℕ) → variable_among us unit number ≡ slice_get (unit_variables u) number) × (types_among us unit ≡ u.types)
        → ((number : ℕ) → variable_among (x ∷ us) unit number ≡ slice_get (unit_variables u) number) × (types_among (x ∷ us) unit ≡ u.types)
    go true e rest = absurd (let never : 0 ≡ suc k = alone 0 x refl e in omega (arith, never))
    go false e rest = (
      (λ number. ap (λ b. if b then slice_get (unit_variables x) number else variable_among us unit number) e ∙ rest.0 number),
      ap (λ b. if b then x.types else types_among us unit) e ∙ rest.1,
    )

-- what a unit has of its own is laid out with others of other names as the unit declares it
own_laid : (us : List TypedUnit) (u : TypedUnit) (k : ℕ) → slice_get us k ≡ Some u → ((i : ℕ) (x : TypedUnit) → slice_get us i ≡ Some x → x.name ≡ u.name → i ≡ k)
    → (unit : List ℕ) (number : ℕ) (v : UnitVariable) → bytes_eq u.name unit ≡ true → slice_get (unit_variables u) number ≡ Some v → IsLaidOut (layout_of us) u.types unit number v
own_laid us u k there alone unit number v e h =
    let of_name : u.name ≡ unit = grind (arith, bytes_eq-Decides, e) in
    let here = among us u k unit there e (λ i x at is. alone i x at (let its : x.name ≡ unit = grind (arith, bytes_eq-Decides, is) in its ∙ sym of_name)) in
    record {
      variable = v;
      there = here.0 number ∙ h;
      into = λ t i. subst (λ ts. IsInstance ts (denoter_of v.denoter) t) (sym here.1) i;
      back = λ t i. subst (λ ts. IsInstance ts (denoter_of v.denoter) t) here.1 i;
    }

-- where it has a variable of the same types, that is laid out
same_laid : {layout : Layout} {types others : List UnitType} {unit : List ℕ} {number : ℕ} (v w : UnitVariable) → HaveSameTypes types (denoter_of v.denoter) others (denoter_of w.denoter) → IsLaidOut layout others unit number w → IsLaidOut layout types unit number v
same_laid {layout = layout} {unit = unit} {number = number} v w same laid = record {
  variable = laid.variable;
  there = laid.there;
  into = λ t i. laid.into t (same.into t i);
  back = λ t i. same.back t (laid.back t i);
}

module _ (us : List TypedUnit) (named : HaveOwnNames us) (u : TypedUnit) (k : ℕ) (at : slice_get us k ≡ Some u) where
  -- what others give is laid out as it is given
  given_laid : (given : List GivenUnit) → ((i : ℕ) (g : GivenUnit) → slice_get given i ≡ Some g → IsFound us u.types g)
      → (unit : List ℕ) (number : ℕ) (v : UnitVariable) → variable_given given unit number ≡ Some v → IsLaidOut (layout_of us) u.types unit number v
  given_laid [] found unit number v h = cc
  given_laid (g ∷ gs) found unit number v h = go (bytes_eq g.name unit) refl (given_laid gs (λ i x there. found (suc i) x there) unit number v) h
    where
      go : (b : Bool) → bytes_eq g.name unit ≡ b → (variable_given gs unit number ≡ Some v → IsLaidOut (layout_of us) u.types unit number v) → (if b then slice_get g.variables number else variable_given gs unit number) ≡ Some v → IsLaidOut (layout_of us) u.types unit number v
      go false e others h = others h
      go true e others h =
          let f = found 0 g refl in
          let has = f.has in
          let x = has.variables number v h in
          let its : bytes_eq (f.unit).name unit ≡ true = ap (λ n. bytes_eq n unit) f.named ∙ e in
          same_laid v x.1.0 x.1.2
          (own_laid us f.unit f.number f.there (λ i y there same. named i f.number y f.unit there f.there same) unit number x.1.0 its x.1.1)

  -- A unit among others of other names, which have what is given to it, is laid out with them as it declares.
  pub laid_among : (given : List GivenUnit) → ((i : ℕ) (g : GivenUnit) → slice_get given i ≡ Some g → IsFound us u.types g) → AreLaidOut (declared_of given u) (layout_of us)
  laid_among given found unit number v is_declared = go (bytes_eq u.name unit) refl is_declared
    where
      go : (b : Bool) → bytes_eq u.name unit ≡ b → (if b then slice_get (unit_variables u) number else variable_given given unit number) ≡ Some v → IsLaidOut (layout_of us) u.types unit number v
      go true e h = own_laid us u k at (λ i x there same. named i k x u there at same) unit number v e h
      go false e h = given_laid given found unit number v h
