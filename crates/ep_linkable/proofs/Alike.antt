-- For `laws_of_link_order`: one answer for each list, in whatever order it is.
use Rattle.std.proofs.Common.{◌≡◌, ℕ, zero, suc, ◌<◌, ◌≤◌, ◌-◌, ◌^◌, min, List, Bool, true, false, cond, not}
use Rattle.std.proofs.Common.{◌⊎◌, inl, inr, refl, sym, subst, ap, ◌∙◌, arith}
use Rattle.std.specs.List.{Contains}
use Rattle.std.specs.List.Sorted.{IsPermutation}
use Rattle.std.specs.Ordering.{is_lt, nat_cmp}
use Rattle.std.specs.Cmp.Lexicographic.{slice_cmp}
use Rattle.std.proofs.lemmas.List.Sorted.{All-permutation, Contains-permutation, IsPermutation-sym}
use Rattle.std.proofs.lemmas.List.Sorted.{sum_by-IsPermutation}
use Rattle.std.proofs.lemmas.List.Sums.{sum_by-le-sum_by}
use Rattle.ep_order.specs.Systems.{IsUpTo}
use Rattle.ep_order.specs.Orders.{IsOrder}
use Rattle.ep_order.proofs.public.Laws.{one_order, upto_same, upto_trans, upto_back}
use Rattle.ep_linkable.specs.declared.unit.Import.{Import}
use Rattle.ep_linkable.specs.declared.unit.LinkUnit.{LinkUnit}
use Rattle.ep_linkable.specs.declared.refusal.LinkRefusal.{LinkRefusal}
use Rattle.ep_linkable.specs.declared.refusal.LinkRefusal.TheVariants.{NoProgram, TwoPrograms, TwoUnits}
use Rattle.ep_linkable.specs.declared.refusal.LinkRefusal.TheVariants.{TwoInterfaces, NoModule, InterfaceDiffers}
use Rattle.ep_linkable.specs.declared.refusal.LinkRefusal.TheVariants.{Circle, TooLarge, NoMemory}
use Rattle.ep_linkable.specs.Units.{IsExporter, IsImported, exports_named, units_named, names_at}
use Rattle.ep_linkable.specs.Supplies.{system}
use Rattle.ep_linkable.specs.Refusals.{Holds, number, AreLeastPrograms, IsProgramName}
use Rattle.ep_linkable.specs.Refusals.{IsLeastTwice, IsLeastImport, IsMissing, IsDifferent, programs_up_to}
use Rattle.ep_linkable.specs.Refusals.{programs_below}
use Rattle.ep_linkable.specs.Laws as laws
use Rattle.ep_linkable.specs.Laws.{IsSame}
use Rattle.ep_linkable.proofs.Lists.{same_or_not, true_or_false}
use Rattle.ep_linkable.proofs.Entries.{least_same}
use Rattle.ep_linkable.proofs.OneProgram.{both, both_first, both_second, not_below}
use Rattle.ep_linkable.proofs.Supplies.{circle_alike, order_alike, system_within}

-- ---- the order of the list plays no part

module _ (units others : List LinkUnit) (moved : IsPermutation units others) where
  back : IsPermutation others units
  back = IsPermutation-sym units others moved

  there_unit : (unit : LinkUnit) → Contains units unit → Contains others unit
  there_unit unit has = Contains-permutation units others unit moved has

  back_unit : (unit : LinkUnit) → Contains others unit → Contains units unit
  back_unit unit has = Contains-permutation others units unit back has

  named_same : (name : List ℕ) → units_named units name ≡ units_named others name
  named_same name = sym (sum_by-IsPermutation _ units others moved)

  exports_same : (name : List ℕ) → exports_named units name ≡ exports_named others name
  exports_same name = sym (sum_by-IsPermutation _ units others moved)

  program_there : (name : List ℕ) → IsProgramName units name → IsProgramName others name
  program_there name p = (p.0, there_unit p.0 p.1, p.2, p.3)

  program_back : (name : List ℕ) → IsProgramName others name → IsProgramName units name
  program_back name p = (p.0, back_unit p.0 p.1, p.2, p.3)

  exporter_there : (exporter : LinkUnit) (name : List ℕ) → IsExporter units exporter name
      → IsExporter others exporter name
  exporter_there exporter name e = (there_unit exporter e.0, e.1)

  exporter_back : (exporter : LinkUnit) (name : List ℕ) → IsExporter others exporter name
      → IsExporter units exporter name
  exporter_back exporter name e = (back_unit exporter e.0, e.1)

  least_there : (P Q : Import → Type 0) → ((m : Import) → P m → Q m) → ((m : Import) → Q m → P m)
      → (interface importer : List ℕ) → IsLeastImport units P interface importer
      → IsLeastImport others Q interface importer
  least_there P Q into out interface importer h = record {
    imported = imported_there h.imported;
    importer_least = λ other by i. h.importer_least other by (imported_back other by i);
    interface_least = λ other i. h.interface_least other (imported_back other importer i);
  }
    where
      imported_there : IsImported units P interface importer → IsImported others Q interface importer
      imported_there i = (i.0, there_unit i.0 i.1, i.2, i.3, i.4, i.5, into i.3 i.6)

      imported_back : (other by : List ℕ) → IsImported others Q other by → IsImported units P other by
      imported_back other by i = (i.0, back_unit i.0 i.1, i.2, i.3, i.4, i.5, out i.3 i.6)

  pub holds_there : (refusal : LinkRefusal) → Holds units refusal → Holds others refusal
  holds_there NoProgram h = All-permutation (λ (u : LinkUnit). u.is_program ≡ false) units others moved h
  holds_there (TwoPrograms first second) h = record {
    first_is = program_there first h.first_is;
    second_is = program_there second h.second_is;
    least = λ other p. h.least other (program_back other p);
    two = subst (λ n. 1 < n) (sym (sum_by-IsPermutation _ units others moved)) h.two;
    few = subst (λ n. n < 2) (sym (sum_by-IsPermutation _ units others moved)) h.few;
  }
  holds_there (TwoUnits name) h = least_same (units_named units) (units_named others) named_same name h
  holds_there (TwoInterfaces name) h = least_same (exports_named units) (exports_named others) exports_same name h
  holds_there (NoModule interface importer) h = least_there (IsMissing units) (IsMissing others)
      (λ m none exporter e. none exporter (exporter_back exporter m.interface.now e))
      (λ m none exporter e. none exporter (exporter_there exporter m.interface.now e)) interface importer h
  holds_there (InterfaceDiffers interface importer) h = least_there (IsDifferent units) (IsDifferent others)
      (λ m d. (d.0, exporter_there d.0 m.interface.now d.1, d.2))
      (λ m d. (d.0, exporter_back d.0 m.interface.now d.1, d.2)) interface importer h
  holds_there (Circle names) h =
      circle_alike (system units) (system others) (system_within units others there_unit) names h
  holds_there (TooLarge size) h =
      (h.0 ∙ ap (λ n. min n (2 ^ 64 - 1)) (sym (sum_by-IsPermutation _ units others moved)), h.1)
  holds_there NoMemory h = h

  pub order_there : (order : List (List ℕ)) → IsOrder (system units) order → IsOrder (system others) order
  order_there order h = order_alike (system units) (system others) (system_within units others there_unit)
      (system_within others units back_unit) order h

pub lists_refuse_alike : laws.ListsRefuseAlike
lists_refuse_alike units others refusal moved h = (
  holds_there units others moved refusal h.0,
  λ other l holds. h.1 other l (holds_there others units (IsPermutation-sym units others moved) other holds),
)

pub lists_pass_alike : laws.ListsPassAlike
lists_pass_alike units others moved none refusal holds =
    none refusal (holds_there others units (IsPermutation-sym units others moved) refusal holds)

pub lists_are_linked_alike : laws.ListsAreLinkedAlike
lists_are_linked_alike units others places second moved h k =
    one_order (system others) (names_at units places) (names_at others second)
    (order_there units others moved (names_at units places) h.order) k.order

-- ---- one answer

pub orders_are_one : laws.OrdersAreOne
orders_are_one units places others h k =
    one_order (system units) (names_at units places) (names_at units others) h.order k.order

pub refused_have_no_order : laws.RefusedHaveNoOrder
refused_have_no_order units refusal places h k = k.none refusal h.0

-- the least name that stands twice is one
twice_one : (count : List ℕ → ℕ) (a b : List ℕ) → IsLeastTwice count a → IsLeastTwice count b → a ≡ b
twice_one count a b h k = upto_same a b (h.1 b k.0) (k.1 a h.0)

import_one : (units : List LinkUnit) (P : Import → Type 0) (i by j to : List ℕ) → IsLeastImport units P i by
    → IsLeastImport units P j to → (i ≡ j) × (by ≡ to)
import_one units P i by j to h k =
    let same : by ≡ to = upto_same by to (h.importer_least j to k.imported) (k.importer_least i by h.imported) in (
      upto_same i j (h.interface_least j (subst (IsImported units P j) (sym same) k.imported))
          (k.interface_least i (subst (IsImported units P i) same h.imported)),
      same,
    )

-- a name is up to another one, or above it
up_or_below : (a b : List ℕ) → IsUpTo a b ⊎ (is_lt (slice_cmp nat_cmp b a) ≡ true)
up_or_below a b = elim (true_or_false (is_lt (slice_cmp nat_cmp b a))) [
  | inl t ↦ inr t
  | inr f ↦ inl (upto_back a b f)
]

below_up : (a b c : List ℕ) → IsUpTo a b → is_lt (slice_cmp nat_cmp b c) ≡ true → is_lt (slice_cmp nat_cmp a c) ≡ true
below_up a b c up below = elim (true_or_false (is_lt (slice_cmp nat_cmp a c))) [
  | inl t ↦ t
  | inr f ↦
      let back : IsUpTo c a = upto_back c a f in
      let around : IsUpTo c b = upto_trans c a b back up in
      absurd (not_below c b around below)
]

share_up : (a b : Bool) → (a ≡ true → b ≡ true) → cond a 1 0 ≤ cond b 1 0
share_up true b h = let e : b ≡ true = h refl in subst (λ x. 1 ≤ cond x 1 0) (sym e) (omega arith)
share_up false true h = omega arith
share_up false false h = omega arith

-- of two second names neither is below the other
second_up : (units : List LinkUnit) (a b : List ℕ) → 1 < programs_up_to units b → programs_below units a < 2
    → IsUpTo a b
second_up units a b two few = elim (up_or_below a b) [
  | inl up ↦ up
  | inr below ↦
      let more : programs_up_to units b ≤ programs_below units a = sum_by-le-sum_by _ _ units (λ u.
      share_up _ _ (λ h. both u.is_program _ (both_first u.is_program _ h)
      (below_up u.name.now b a (not_true _ (both_second u.is_program _ h)) below))) in
      absurd (omega (arith, two, few, more))
]
  where
    not_true : (x : Bool) → not x ≡ true → x ≡ false
    not_true true h = cc
    not_true false h = refl

programs_one : (units : List LinkUnit) (a b c d : List ℕ) → AreLeastPrograms units a b → AreLeastPrograms units c d
    → (a ≡ c) × (b ≡ d)
programs_one units a b c d h k = (
  upto_same a c (h.least c k.first_is) (k.least a h.first_is),
  upto_same b d (second_up units b d k.two h.few) (second_up units d b h.two k.few),
)

same_kind : (units : List LinkUnit) (refusal other : LinkRefusal) → number refusal ≡ number other → Holds units refusal
    → Holds units other → IsSame refusal other
same_kind units NoProgram NoProgram e h k = refl
same_kind units (TwoPrograms a b) (TwoPrograms c d) e h k =
    let s = programs_one units a b c d h k in ap (λ x. TwoPrograms x b) s.0 ∙ ap (TwoPrograms c) s.1
same_kind units (TwoUnits a) (TwoUnits b) e h k = ap TwoUnits (twice_one (units_named units) a b h k)
same_kind units (TwoInterfaces a) (TwoInterfaces b) e h k = ap TwoInterfaces (twice_one (exports_named units) a b h k)
same_kind units (NoModule a b) (NoModule c d) e h k =
    let s = import_one units (IsMissing units) a b c d h k in ap (λ x. NoModule x b) s.0 ∙ ap (NoModule c) s.1
same_kind units (InterfaceDiffers a b) (InterfaceDiffers c d) e h k =
    let s = import_one units (IsDifferent units) a b c d h k in
    ap (λ x. InterfaceDiffers x b) s.0 ∙ ap (InterfaceDiffers c) s.1
same_kind units (Circle a) (Circle b) e h k = tt
same_kind units (TooLarge a) (TooLarge b) e h k = ap TooLarge (h.0 ∙ sym k.0)
same_kind units NoMemory NoMemory e h k = refl
same_kind units _ _ e h k = absurd (omega (arith, e))

below_or_not : (m n : ℕ) → (m < n) ⊎ (n ≤ m)
below_or_not zero zero = inr (omega arith)
below_or_not zero (suc n) = inl (omega arith)
below_or_not (suc m) zero = inr (omega arith)
below_or_not (suc m) (suc n) = elim (below_or_not m n) [
  | inl l ↦ inl (omega (arith, l))
  | inr l ↦ inr (omega (arith, l))
]

pub refusals_are_one : laws.RefusalsAreOne
refusals_are_one units refusal other h k = elim (same_or_not (number refusal) (number other)) [
  | inl e ↦ same_kind units refusal other e h.0 k.0
  | inr ne ↦ elim (below_or_not (number refusal) (number other)) [
    | inl l ↦ absurd (k.1 refusal l h.0)
    | inr l ↦ absurd (h.1 other (omega (arith, l, ne)) k.0)
  ]
]
