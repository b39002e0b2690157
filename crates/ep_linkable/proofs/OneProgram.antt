-- For `one_program`: programs by their places, and the two least of them.
use Rattle.std.proofs.Common.{◌≡◌, ◌≢◌, ℕ, ◌<◌, List, length, get_or}
use Rattle.std.proofs.Common.{Bool, true, false, cond, not, ◌&&◌, Some, None, inl, inr, refl, sym, subst, ap}
use Rattle.std.proofs.Common.{◌∙◌, arith}
use Rattle.std.specs.Ordering.{is_gt, is_lt, nat_cmp}
use Rattle.std.specs.declared.cmp.Ordering.TheVariants.{Equal}
use Rattle.std.specs.Cmp.Lexicographic.{slice_cmp}
use Rattle.std.proofs.lemmas.Cmp.{nat_list_cmp_total, tied_itself}
use Rattle.std.proofs.lemmas.Option.{same_Some, slice_get_within, slice_get_read}
use Rattle.ep_order.specs.Systems.{IsUpTo}
use Rattle.ep_order.proofs.public.Laws.{upto_itself, upto_same, upto_below}
use Rattle.ep_linkable.specs.declared.unit.LinkUnit.{LinkUnit}
use Rattle.ep_linkable.specs.declared.refusal.LinkRefusal.TheVariants.{NoProgram, TwoPrograms}
use Rattle.ep_linkable.specs.Units.{StandsAt, name_of, name_at}
use Rattle.ep_linkable.specs.Refusals.{IsRefusal, NoneBefore, AreLeastPrograms, programs_up_to}
use Rattle.ep_linkable.specs.Refusals.{programs_below}
use Rattle.ep_linkable.specs.Least.{IsLeastAt}
use Rattle.ep_linkable.specs.Faults.{IsProgramAt, IsOtherProgram, HasOneProgram}
use Rattle.ep_linkable.proofs.Lists.{contains_at, place_of, all_at, all_from, same_or_not, true_or_false}
use Rattle.ep_linkable.proofs.Counts.{yes_share, share_yes, share_low, two_places, one_share}
use Rattle.ep_linkable.proofs.Cases.{none_first, none_more}

-- ---- the unit that the code reads at a place

pub stands_read : (units : List LinkUnit) (place : ℕ) (unit : LinkUnit) → place < length units
    → unit ≡ get_or units place unit → StandsAt units place unit
stands_read units place unit within read = slice_get_read units (length units) place unit refl within read

pub name_read : (units : List LinkUnit) (place : ℕ) (unit : LinkUnit) → StandsAt units place unit
    → name_at units place ≡ unit.name.now
name_read units place unit stands = ap name_of stands

pub program_is : (units : List LinkUnit) (place : ℕ) (unit : LinkUnit) → StandsAt units place unit
    → IsProgramAt units place → unit.is_program ≡ true
program_is units place unit stands p =
    ap (λ (u : LinkUnit). u.is_program) (same_Some unit p.0 (sym stands ∙ p.1)) ∙ p.2

pub other_is : (units : List LinkUnit) (but place : ℕ) (unit : LinkUnit) → StandsAt units place unit
    → unit.is_program ≡ true → place ≢ but → IsOtherProgram units but place
other_is units but place unit stands is ne = ((unit, stands, is), ne)

-- ---- just one program

pub no_program : (units : List LinkUnit)
    → IsLeastAt (IsOtherProgram units (length units)) (name_at units) (length units) None → IsRefusal units NoProgram
no_program units none = inr (
  all_from (λ (unit : LinkUnit). unit.is_program ≡ false) units (λ unit has.
      let at = place_of units unit has in
      let within : at.0 < length units = slice_get_within units at.0 unit at.1 in
      elim (true_or_false unit.is_program) [
        | inl is ↦ absurd (none at.0 within ((unit, at.1, is), λ e. omega (arith, within, e)))
        | inr other ↦ other
      ]),
  none_first units,
)

pub one_program_is : (units : List LinkUnit) (first : ℕ)
    → IsLeastAt (IsOtherProgram units (length units)) (name_at units) (length units) (Some first)
    → IsLeastAt (IsOtherProgram units first) (name_at units) (length units) None → HasOneProgram units
one_program_is units first is none = (
  first,
  is.1.0,
  λ k p. elim (same_or_not k first) [
    | inl e ↦ e
    | inr ne ↦ absurd (none k (slice_get_within units k p.0 p.1) (p, ne))
  ],
)

-- ---- two least programs

pub not_below : (a b : List ℕ) → IsUpTo a b → is_lt (slice_cmp nat_cmp b a) ≡ true → ⊥
not_below a b up below =
    let same : a ≡ b = upto_same a b up (upto_below b a below) in
    let tied : slice_cmp nat_cmp b a ≡ Equal =
    ap (λ l. slice_cmp nat_cmp b l) same ∙ tied_itself nat_list_cmp_total b in
    let clash : true ≡ false = sym below ∙ ap is_lt tied in
    cc

pub both : (a b : Bool) → a ≡ true → b ≡ true → (a && b) ≡ true
both a b e h = ap (λ x. x && b) e ∙ h

pub both_first : (a b : Bool) → (a && b) ≡ true → a ≡ true
both_first true b h = refl
both_first false b h = h

pub both_second : (a b : Bool) → (a && b) ≡ true → b ≡ true
both_second true b h = h
both_second false b h = cc

module _ (units : List LinkUnit) (first second : ℕ) (a : IsProgramAt units first) (b : IsProgramAt units second)
    (apart : second ≢ first)
    (least : (k : ℕ) → IsProgramAt units k → IsUpTo (name_at units first) (name_at units k))
    (next : (k : ℕ) → IsProgramAt units k → k ≢ first → IsUpTo (name_at units second) (name_at units k)) where
  abbrev up_to : LinkUnit → ℕ
  up_to unit = cond (unit.is_program && not (is_gt (slice_cmp nat_cmp unit.name.now (name_at units second)))) 1 0

  abbrev below : LinkUnit → ℕ
  below unit = cond (unit.is_program && is_lt (slice_cmp nat_cmp unit.name.now (name_at units second))) 1 0

  named_at : (k : ℕ) (p : IsProgramAt units k) → name_at units k ≡ p.0.name.now
  named_at k p = name_read units k p.0 p.1

  has_share : (k : ℕ) (p : IsProgramAt units k) → IsUpTo (name_at units k) (name_at units second) → 0 < up_to p.0
  has_share k p up = yes_share _ (both p.0.is_program _ p.2
      (ap not (subst (λ n. is_gt (slice_cmp nat_cmp n (name_at units second)) ≡ false) (named_at k p) up)))

  two : 1 < programs_up_to units (name_at units second)
  two = two_places up_to units first second a.0 b.0 (λ e. apart (sym e)) a.1 b.1
      (has_share first a (least second b)) (has_share second b (upto_itself (name_at units second)))

  few : programs_below units (name_at units second) < 2
  few = one_share below units first (λ x. share_low _) (λ j x at p.
      let is = share_yes _ p in
      let program : IsProgramAt units j = (x, at, both_first x.is_program _ is) in
      elim (same_or_not j first) [
        | inl e ↦ e
        | inr ne ↦ absurd (not_below (name_at units second) (name_at units j) (next j program ne)
            (subst (λ n. is_lt (slice_cmp nat_cmp n (name_at units second)) ≡ true) (sym (named_at j program))
            (both_second x.is_program _ is)))
      ])

  pub least_programs : AreLeastPrograms units (name_at units first) (name_at units second)
  least_programs = record {
    first_is = (a.0, contains_at units first a.0 a.1, a.2, sym (named_at first a));
    second_is = (b.0, contains_at units second b.0 b.1, b.2, sym (named_at second b));
    least = λ other is.
        let at = place_of units is.0 is.1 in
        let program : IsProgramAt units at.0 = (is.0, at.1, is.2) in
        subst (IsUpTo (name_at units first)) (named_at at.0 program ∙ is.3) (least at.0 program);
    two = two;
    few = few;
  }

pub none_below_two : (units : List LinkUnit) (place : ℕ) → IsProgramAt units place → NoneBefore units 2
none_below_two units place p = none_more units 1 2 refl (none_first units) (λ all.
    let module' : p.0.is_program ≡ false = all_at (λ (u : LinkUnit). u.is_program ≡ false) units place p.0 all p.1 in
    let clash : true ≡ false = sym p.2 ∙ module' in
    cc)

pub two_programs : (units : List LinkUnit) (first second : ℕ) (x y : List ℕ)
    → IsLeastAt (IsOtherProgram units (length units)) (name_at units) (length units) (Some first)
    → IsLeastAt (IsOtherProgram units first) (name_at units) (length units) (Some second)
    → x ≡ name_at units first → y ≡ name_at units second → IsRefusal units (TwoPrograms x y)
two_programs units first second x y h k ex ey = inr (
  subst (λ n. AreLeastPrograms units n y) (sym ex) (subst (AreLeastPrograms units (name_at units first)) (sym ey)
      (least_programs units first second h.1.0 k.1.0 k.1.1
      (λ j p.
      let within : j < length units = slice_get_within units j p.0 p.1 in
      h.2 j within (p, λ e. omega (arith, within, e)))
      (λ j p ne. k.2 j (slice_get_within units j p.0 p.1) (p, ne)))),
  none_below_two units first h.1.0,
)

-- ---- with one program neither of the first two refusals holds

pub none_programs : (units : List LinkUnit) → HasOneProgram units → NoneBefore units 3
none_programs units one = none_more units 2 3 refl (none_below_two units one.0 one.1) (λ h.
    let second = h.1 in
    let few : programs_up_to units second < 2 = one_share
    (λ (u : LinkUnit). cond (u.is_program && not (is_gt (slice_cmp nat_cmp u.name.now second))) 1 0) units one.0
    (λ x. share_low _)
    (λ j x at p. one.2 j (x, at, both_first x.is_program _ (share_yes _ p))) in
    let two : 1 < programs_up_to units second = h.2.two in
    absurd (omega (arith, few, two)))
