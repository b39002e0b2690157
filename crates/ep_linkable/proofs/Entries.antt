-- For `Register` and those who make it: names that come one behind the other, the first place of each, and the least
-- that comes twice.
use Rattle.std.proofs.Common.{◌≡◌, ℕ, zero, suc, ◌<◌, ◌≤◌, ◌+◌, List, [], ◌∷◌, ◌++◌, map, get_or}
use Rattle.std.proofs.Common.{Bool, true, false, cond, Option, Some, None, ◌⊎◌, inl, inr, refl, sym, subst, ap, ◌∙◌}
use Rattle.std.proofs.Common.{arith, length, take, take_all, zero-add, Bor, is_some}
use Rattle.std.specs.Option.{option_copied}
use Rattle.std.proofs.lemmas.List.{map_more}
use Rattle.ep_linkable.specs.declared.register.Entry.{Entry}
use Rattle.std.specs.List.{Contains, count_by}
use Rattle.std.specs.Str.{bytes_eq}
use Rattle.std.specs.Ordering.{is_lt, nat_cmp}
use Rattle.std.specs.Cmp.Lexicographic.{slice_cmp, bytes_decides}
use Rattle.std.proofs.lemmas.Option.{same_Some, none-some}
use Rattle.std.proofs.lemmas.List.Sums.{sum_by-cons, sum_by-append, sum_by_push}
use Rattle.ep_order.specs.Systems.{IsUpTo}
use Rattle.ep_order.proofs.public.Laws.{upto_itself, upto_trans, upto_below, upto_back}
use Rattle.ep_linkable.specs.declared.register.Register.{Register}
use Rattle.ep_linkable.specs.declared.unit.LinkUnit.{LinkUnit}
use Rattle.ep_linkable.specs.Units.{StandsAt, exports_of, exports_named, units_named}
use Rattle.ep_linkable.specs.Refusals.{IsLeastTwice, IsRefusal, NoneBefore}
use Rattle.ep_linkable.specs.declared.refusal.LinkRefusal.TheVariants.{TwoUnits, TwoInterfaces}
use Rattle.ep_linkable.specs.Registers.{NamedPlace, IsTwice, place_in, place_under, count_in, if_none}
use Rattle.ep_linkable.specs.Registers.{seen, with_first}
use Rattle.ep_linkable.specs.Registers.{twice_after}
use Rattle.ep_linkable.specs.Exporters.{IsExporters, entry_at, unit_entries, export_entries}
use Rattle.ep_linkable.proofs.Lists.{contains_none, contains_first, contains_more, contains_cases, true_or_false}
use Rattle.ep_linkable.proofs.Counts.{yes_share, few_or_two}

pub same_bytes : (a b : List ℕ) → a ≡ b → bytes_eq a b ≡ true
same_bytes a b e = (bytes_decides a b).1 e

pub bytes_same : (a b : List ℕ) → bytes_eq a b ≡ true → a ≡ b
bytes_same a b e = (bytes_decides a b).0 e

-- ---- one more name

pub place_push : (entries : List NamedPlace) (entry : NamedPlace) (name : List ℕ)
    → place_in (entries ++ entry ∷ []) name
    ≡ if_none (place_in entries name) (cond (bytes_eq entry.name name) (Some entry.place) None)
place_push [] entry name = refl
place_push (x ∷ entries) entry name = go (place_push entries entry name) (bytes_eq x.name name)
  where
    go : place_in (entries ++ entry ∷ []) name
        ≡ if_none (place_in entries name) (cond (bytes_eq entry.name name) (Some entry.place) None)
        → (b : Bool) → cond b (Some x.place) (place_in (entries ++ entry ∷ []) name)
        ≡ if_none (cond b (Some x.place) (place_in entries name))
        (cond (bytes_eq entry.name name) (Some entry.place) None)
    go rest true = refl
    go rest false = rest

count_push : (entries : List NamedPlace) (entry : NamedPlace) (name : List ℕ)
    → count_in (entries ++ entry ∷ []) name ≡ count_in entries name + cond (bytes_eq name entry.name) 1 0
count_push entries entry name = sum_by_push (λ (e : NamedPlace). cond (bytes_eq name e.name) 1 0) entries entry

-- a name without a place doesn't stand there, and one with a place does
count_none : (entries : List NamedPlace) (name : List ℕ) → place_in entries name ≡ None → count_in entries name ≡ 0
count_none [] name h = refl
count_none (x ∷ entries) name h = go (count_none entries name) (bytes_eq x.name name) refl h
  where
    go : (place_in entries name ≡ None → count_in entries name ≡ 0) → (b : Bool) → bytes_eq x.name name ≡ b
        → cond b (Some x.place) (place_in entries name) ≡ None → count_in (x ∷ entries) name ≡ 0
    go rest true e h = absurd (none-some x.place (sym h))
    go rest false e h =
        let other : bytes_eq name x.name ≡ false = elim (true_or_false (bytes_eq name x.name)) [
          | inl t ↦
              let clash : true ≡ false = sym (same_bytes x.name name (sym (bytes_same name x.name t))) ∙ e in
              cc
          | inr f ↦ f
        ] in
        sum_by-cons (λ (y : NamedPlace). cond (bytes_eq name y.name) 1 0) x entries
        ∙ ap (λ b. cond b 1 0 + count_in entries name) other ∙ zero-add (count_in entries name) ∙ rest h

count_some : (entries : List NamedPlace) (name : List ℕ) (place : ℕ) → place_in entries name ≡ Some place
    → 0 < count_in entries name
count_some [] name place h = absurd (none-some place h)
count_some (x ∷ entries) name place h = go (count_some entries name place) (bytes_eq x.name name) refl h
  where
    all : count_in (x ∷ entries) name ≡ cond (bytes_eq name x.name) 1 0 + count_in entries name
    all = sum_by-cons (λ (y : NamedPlace). cond (bytes_eq name y.name) 1 0) x entries

    go : (place_in entries name ≡ Some place → 0 < count_in entries name) → (b : Bool) → bytes_eq x.name name ≡ b
        → cond b (Some x.place) (place_in entries name) ≡ Some place → 0 < count_in (x ∷ entries) name
    go rest true e h =
        let first : 0 < cond (bytes_eq name x.name) 1 0 =
        yes_share _ (same_bytes name x.name (sym (bytes_same x.name name e))) in
        subst (λ n. 0 < n) (sym all) (omega (arith, first))
    go rest false e h =
        let more : 0 < count_in entries name = rest h in
        subst (λ n. 0 < n) (sym all) (omega (arith, more))

-- what stands twice before does so afterwards, and what does afterwards did before or is the new one
twice_still : (entries : List NamedPlace) (entry : NamedPlace) (name : List ℕ) → 1 < count_in entries name
    → 1 < count_in (entries ++ entry ∷ []) name
twice_still entries entry name h = subst (λ n. 1 < n) (sym (count_push entries entry name)) (omega (arith, h))

twice_was : (entries : List NamedPlace) (entry : NamedPlace) (name : List ℕ)
    → 1 < count_in (entries ++ entry ∷ []) name
    → (1 < count_in entries name) ⊎ ((name ≡ entry.name) × (0 < count_in entries name))
twice_was entries entry name h =
    go (bytes_eq name entry.name) refl (subst (λ n. 1 < n) (count_push entries entry name) h)
  where
    go : (b : Bool) → bytes_eq name entry.name ≡ b → 1 < count_in entries name + cond b 1 0
        → (1 < count_in entries name) ⊎ ((name ≡ entry.name) × (0 < count_in entries name))
    go true e l = inr (bytes_same name entry.name e, omega (arith, l))
    go false e l = inl (omega (arith, l))

twice_now : (entries : List NamedPlace) (entry : NamedPlace) → 0 < count_in entries entry.name
    → 1 < count_in (entries ++ entry ∷ []) entry.name
twice_now entries entry h =
    let new : 0 < cond (bytes_eq entry.name entry.name) 1 0 = yes_share _ (same_bytes entry.name entry.name refl) in
    subst (λ n. 1 < n) (sym (count_push entries entry entry.name)) (omega (arith, h, new))

pub twice_more : (entries : List NamedPlace) (entry : NamedPlace) (twice : Option (List ℕ)) → IsTwice entries twice
    → IsTwice (entries ++ entry ∷ []) (twice_after (place_in entries entry.name) twice entry.name)
twice_more entries entry twice h = go (place_in entries entry.name) refl twice h
  where
    old : place_in entries entry.name ≡ None → (name : List ℕ) → 1 < count_in (entries ++ entry ∷ []) name
        → 1 < count_in entries name
    old none name l = elim (twice_was entries entry name l) [
      | inl two ↦ two
      | inr new ↦
          let nothing : count_in entries name ≡ 0 =
          count_none entries name (subst (λ n. place_in entries n ≡ None) (sym new.0) none) in
          let some : 0 < count_in entries name = new.1 in
          absurd (omega (arith, nothing, some))
    ]

    lesser_is : (place : ℕ) → place_in entries entry.name ≡ Some place → (first : List ℕ) (b : Bool)
        → is_lt (slice_cmp nat_cmp entry.name first) ≡ b → IsLeastTwice (count_in entries) first
        → IsLeastTwice (count_in (entries ++ entry ∷ [])) (cond b entry.name first)
    lesser_is place at first true e h = (
      twice_now entries entry (count_some entries entry.name place at),
      λ other l. elim (twice_was entries entry other l) [
        | inl two ↦ upto_trans entry.name first other (upto_below entry.name first e) (h.1 other two)
        | inr new ↦ subst (IsUpTo entry.name) (sym new.0) (upto_itself entry.name)
      ],
    )
    lesser_is place at first false e h = (
      twice_still entries entry first h.0,
      λ other l. elim (twice_was entries entry other l) [
        | inl two ↦ h.1 other two
        | inr new ↦ subst (IsUpTo first) (sym new.0) (upto_back first entry.name e)
      ],
    )

    go : (place : Option ℕ) → place_in entries entry.name ≡ place → (twice : Option (List ℕ)) → IsTwice entries twice
        → IsTwice (entries ++ entry ∷ []) (twice_after place twice entry.name)
    go None e None h = λ name. elim (few_or_two (count_in (entries ++ entry ∷ []) name)) [
      | inl few ↦ few
      | inr two ↦
          let was : 1 < count_in entries name = old e name two in
          let few : count_in entries name < 2 = h name in
          absurd (omega (arith, was, few))
    ]
    go None e (Some first) h = (twice_still entries entry first h.0, λ other l. h.1 other (old e other l))
    go (Some place) e None h = (
      twice_now entries entry (count_some entries entry.name place e),
      λ other l. elim (twice_was entries entry other l) [
        | inl two ↦ let few : count_in entries other < 2 = h other in absurd (omega (arith, two, few))
        | inr new ↦ subst (IsUpTo entry.name) (sym new.0) (upto_itself entry.name)
      ],
    )
    go (Some place) e (Some first) h =
        lesser_is place e first (is_lt (slice_cmp nat_cmp entry.name first)) refl h

-- ---- names of units

pub count_units : (place : ℕ) (units : List LinkUnit) (name : List ℕ)
    → count_in (unit_entries place units) name ≡ units_named units name
count_units place [] name = refl
count_units place (unit ∷ units) name =
    sum_by-cons (λ (e : NamedPlace). cond (bytes_eq name e.name) 1 0) (entry_at place unit.name.now)
    (unit_entries (suc place) units)
    ∙ ap (λ n. cond (bytes_eq name unit.name.now) 1 0 + n) (count_units (suc place) units name)
    ∙ sym (sum_by-cons (λ (u : LinkUnit). cond (bytes_eq name u.name.now) 1 0) unit units)

-- ---- names of exports

pub count_exports : (place : ℕ) (units : List LinkUnit) (name : List ℕ)
    → count_in (export_entries place units) name ≡ exports_named units name
count_exports place [] name = refl
count_exports place (unit ∷ units) name =
    sum_by-append (λ (e : NamedPlace). cond (bytes_eq name e.name) 1 0) (map (entry_at place) (exports_of unit))
    (export_entries (suc place) units)
    ∙ ap (λ n. n + count_in (export_entries (suc place) units) name) (counted (exports_of unit))
    ∙ ap (λ n. count_by (bytes_eq name) (exports_of unit) + n) (count_exports (suc place) units name)
    ∙ sym (sum_by-cons (λ (u : LinkUnit). count_by (bytes_eq name) (exports_of u)) unit units)
  where
    counted : (names : List (List ℕ)) → count_in (map (entry_at place) names) name ≡ count_by (bytes_eq name) names
    counted [] = refl
    counted (x ∷ names) =
        sum_by-cons (λ (e : NamedPlace). cond (bytes_eq name e.name) 1 0) (entry_at place x)
        (map (entry_at place) names)
        ∙ ap (λ n. cond (bytes_eq name x) 1 0 + n) (counted names)
        ∙ sym (sum_by-cons (λ y. cond (bytes_eq name y) 1 0) x names)

-- the first place of a name among those that come from a place and others behind them
place_append : (place : ℕ) (names : List (List ℕ)) (rest : List NamedPlace) (name : List ℕ) (found : ℕ)
    → place_in (map (entry_at place) names ++ rest) name ≡ Some found
    → (Contains names name × (place ≡ found)) ⊎ (place_in rest name ≡ Some found)
place_append place [] rest name found h = inr h
place_append place (x ∷ names) rest name found h =
    go (place_append place names rest name found) (bytes_eq x name) refl h
  where
    go : (place_in (map (entry_at place) names ++ rest) name ≡ Some found
        → (Contains names name × (place ≡ found)) ⊎ (place_in rest name ≡ Some found))
        → (b : Bool) → bytes_eq x name ≡ b
        → cond b (Some place) (place_in (map (entry_at place) names ++ rest) name) ≡ Some found
        → (Contains (x ∷ names) name × (place ≡ found)) ⊎ (place_in rest name ≡ Some found)
    go behind true e h =
        inl (subst (Contains (x ∷ names)) (bytes_same x name e) (contains_first x names), same_Some place found h)
    go behind false e h = elim (behind h) [
      | inl c ↦ inl (contains_more x names name c.0, c.1)
      | inr r ↦ inr r
    ]

-- what stands there has a place
place_first : (place : ℕ) (names : List (List ℕ)) (rest : List NamedPlace) (name : List ℕ) → Contains names name
    → (found : ℕ) × (place_in (map (entry_at place) names ++ rest) name ≡ Some found)
place_first place [] rest name h = absurd (contains_none name h)
place_first place (x ∷ names) rest name h =
    go (place_first place names rest name) (bytes_eq x name) refl
  where
    go : (Contains names name → (found : ℕ) × (place_in (map (entry_at place) names ++ rest) name ≡ Some found))
        → (b : Bool) → bytes_eq x name ≡ b
        → (found : ℕ) × (cond b (Some place) (place_in (map (entry_at place) names ++ rest) name) ≡ Some found)
    go behind true e = (place, refl)
    go behind false e = elim (contains_cases x names name h) [
      | inl s ↦ let clash : true ≡ false = sym (same_bytes x name s) ∙ e in cc
      | inr c ↦ behind c
    ]

place_behind : (place : ℕ) (names : List (List ℕ)) (rest : List NamedPlace) (name : List ℕ) (at : ℕ)
    → place_in rest name ≡ Some at → (found : ℕ) × (place_in (map (entry_at place) names ++ rest) name ≡ Some found)
place_behind place [] rest name at h = (at, h)
place_behind place (x ∷ names) rest name at h = go (place_behind place names rest name at h) (bytes_eq x name)
  where
    go : (found : ℕ) × (place_in (map (entry_at place) names ++ rest) name ≡ Some found) → (b : Bool)
        → (found : ℕ) × (cond b (Some place) (place_in (map (entry_at place) names ++ rest) name) ≡ Some found)
    go behind true = (place, refl)
    go behind false = behind

-- the place of an interface is that of a unit that exports it
export_found : (place : ℕ) (units : List LinkUnit) (name : List ℕ) (found : ℕ)
    → place_in (export_entries place units) name ≡ Some found
    → (k : ℕ) × (exporter : LinkUnit) × (place + k ≡ found) × StandsAt units k exporter
    × Contains (exports_of exporter) name
export_found place [] name found h = absurd (none-some found h)
export_found place (unit ∷ units) name found h =
    elim (place_append place (exports_of unit) (export_entries (suc place) units) name found h) [
      | inl c ↦ (zero, unit, omega (arith, c.1), refl, c.0)
      | inr r ↦ let t = export_found (suc place) units name found r in (suc t.0, t.1, omega (arith, t.2), t.3, t.4)
    ]

-- an interface that is exported has a place
export_whole : (place : ℕ) (units : List LinkUnit) (name : List ℕ) (exporter : LinkUnit)
    → Contains units exporter → Contains (exports_of exporter) name
    → (found : ℕ) × (place_in (export_entries place units) name ≡ Some found)
export_whole place [] name exporter has c = absurd (contains_none exporter has)
export_whole place (unit ∷ units) name exporter has c = elim (contains_cases unit units exporter has) [
  | inl e ↦ place_first place (exports_of unit) (export_entries (suc place) units) name
      (subst (λ (u : LinkUnit). Contains (exports_of u) name) (sym e) c)
  | inr d ↦ let t = export_whole (suc place) units name exporter d c in
      place_behind place (exports_of unit) (export_entries (suc place) units) name t.0 t.1
]

-- the register of what units export, where nothing stands twice
pub exporters_are : (units : List LinkUnit) (register : Register)
    → ((name : List ℕ) → place_under register name ≡ place_in (export_entries 0 units) name)
    → ((name : List ℕ) → count_in (export_entries 0 units) name < 2) → IsExporters units register
exporters_are units register places few = record {
  found = λ interface place h.
      let t = export_found 0 units interface place (sym (places interface) ∙ h) in
      let at : t.0 ≡ place = omega (arith, t.2) in
      (t.1, subst (λ p. StandsAt units p t.1) at t.3, t.4);
  whole = λ interface exporter is.
      let t = export_whole 0 units interface exporter is.0 is.1 in
      (t.0, places interface ∙ t.1);
  once = λ interface. subst (λ n. n < 2) (count_exports 0 units interface) (few interface);
}

-- what is least of those that stand twice by one count is so by an equal one
pub least_same : (count other : List ℕ → ℕ) → ((name : List ℕ) → count name ≡ other name) → (name : List ℕ)
    → IsLeastTwice count name → IsLeastTwice other name
least_same count other same name h = (
  subst (λ n. 1 < n) (same name) h.0,
  λ second l. h.1 second (subst (λ n. 1 < n) (sym (same second)) l),
)

-- ---- the loops that make lists of entries and registers of them

abbrev plain : Entry → NamedPlace
plain entry = record { name = entry.name.now; place = entry.place }

seen_more : (entries : List Entry) (i : ℕ) (entry : Entry) → i < length entries → entry ≡ get_or entries i entry
    → seen (take (i + 1) entries) ≡ seen (take i entries) ++ plain entry ∷ []
seen_more entries i entry within read =
    map_more plain entries i entry within ∙ ap (λ e. seen (take i entries) ++ plain e ∷ []) (sym read)

module _ (entries : List Entry) (i : ℕ) (entry : Entry) (before after : Register) (within : i < length entries)
    (read : entry ≡ get_or entries i entry)
    (places : (name : List ℕ) → place_under before name ≡ place_in (seen (take i entries)) name) where
  pub register_places : ((other : List ℕ)
      → place_under after other ≡ with_first (place_under before) entry.name.now entry.place other)
      → (name : List ℕ) → place_under after name ≡ place_in (seen (take (i + 1) entries)) name
  register_places added name =
      added name
      ∙ ap (λ found. if_none found (cond (bytes_eq entry.name.now name) (Some entry.place) None)) (places name)
      ∙ sym (place_push (seen (take i entries)) (plain entry) name)
      ∙ ap (λ es. place_in es name) (sym (seen_more entries i entry within read))

  pub register_twice : IsTwice (seen (take i entries)) (option_copied before.twice)
      → option_copied after.twice
      ≡ twice_after (place_under before entry.name.now) (option_copied before.twice) entry.name.now
      → IsTwice (seen (take (i + 1) entries)) (option_copied after.twice)
  register_twice twice added =
      subst (λ es. IsTwice es (option_copied after.twice)) (sym (seen_more entries i entry within read))
      (subst (IsTwice (seen (take i entries) ++ plain entry ∷ [])) (sym added)
      (subst
      (λ found. IsTwice (seen (take i entries) ++ plain entry ∷ [])
      (twice_after found (option_copied before.twice) entry.name.now))
      (sym (places entry.name.now))
      (twice_more (seen (take i entries)) (plain entry) (option_copied before.twice) twice)))

pub all_seen : (entries : List Entry) (i : ℕ) (twice : Option (List ℕ)) → length entries ≤ i
    → IsTwice (seen (take i entries)) twice → IsTwice (seen entries) twice
all_seen entries i twice far h = subst (λ es. IsTwice (seen es) twice) (take_all i entries far) h

-- ---- names that stand twice

-- what a register says of the names of units
pub units_few : (units : List LinkUnit) (entries : List Entry) (twice : Option (Bor (List ℕ)))
    → seen entries ≡ unit_entries 0 units → IsTwice (seen entries) (option_copied twice) → twice ≡ None
    → (name : List ℕ) → units_named units name < 2
units_few units entries twice is h none name =
    let few : IsTwice (unit_entries 0 units) None =
    subst (λ es. IsTwice es None) is (subst (λ o. IsTwice (seen entries) (option_copied o)) none h) in
    subst (λ n. n < 2) (count_units 0 units name) (few name)

pub units_twice : (units : List LinkUnit) (entries : List Entry) (twice : Option (Bor (List ℕ))) (name : Bor (List ℕ))
    → seen entries ≡ unit_entries 0 units → IsTwice (seen entries) (option_copied twice) → twice ≡ Some name
    → IsLeastTwice (units_named units) name.now
units_twice units entries twice name is h some =
    let least : IsLeastTwice (count_in (unit_entries 0 units)) name.now =
    subst (λ es. IsTwice es (Some name.now)) is (subst (λ o. IsTwice (seen entries) (option_copied o)) some h) in
    least_same (count_in (unit_entries 0 units)) (units_named units) (count_units 0 units) name.now least

-- and of the names of exports
pub exports_few : (units : List LinkUnit) (entries : List Entry) (register : Register)
    → seen entries ≡ export_entries 0 units
    → ((name : List ℕ) → place_under register name ≡ place_in (seen entries) name)
    → IsTwice (seen entries) (option_copied register.twice) → register.twice ≡ None → IsExporters units register
exports_few units entries register is places h none =
    exporters_are units register (λ name. places name ∙ ap (λ es. place_in es name) is)
    (subst (λ es. IsTwice es None) is (subst (λ o. IsTwice (seen entries) (option_copied o)) none h))

pub exports_twice : (units : List LinkUnit) (entries : List Entry) (twice : Option (Bor (List ℕ)))
    (name : Bor (List ℕ)) → seen entries ≡ export_entries 0 units → IsTwice (seen entries) (option_copied twice)
    → twice ≡ Some name → IsLeastTwice (exports_named units) name.now
exports_twice units entries twice name is h some =
    let least : IsLeastTwice (count_in (export_entries 0 units)) name.now =
    subst (λ es. IsTwice es (Some name.now)) is (subst (λ o. IsTwice (seen entries) (option_copied o)) some h) in
    least_same (count_in (export_entries 0 units)) (exports_named units) (count_exports 0 units) name.now least

-- the refusals for them
pub units_refused : (units : List LinkUnit) (entries : List Entry) (twice : Option (Bor (List ℕ)))
    (name : Bor (List ℕ)) (copy : List ℕ) → seen entries ≡ unit_entries 0 units
    → IsTwice (seen entries) (option_copied twice) → twice ≡ Some name → copy ≡ name.now → NoneBefore units 3
    → IsRefusal units (TwoUnits copy)
units_refused units entries twice name copy is h some same none =
    inr (subst (IsLeastTwice (units_named units)) (sym same) (units_twice units entries twice name is h some), none)

pub exports_refused : (units : List LinkUnit) (entries : List Entry) (twice : Option (Bor (List ℕ)))
    (name : Bor (List ℕ)) (copy : List ℕ) → seen entries ≡ export_entries 0 units
    → IsTwice (seen entries) (option_copied twice) → twice ≡ Some name → copy ≡ name.now → NoneBefore units 4
    → IsRefusal units (TwoInterfaces copy)
exports_refused units entries twice name copy is h some same none =
    inr
    (subst (IsLeastTwice (exports_named units)) (sym same) (exports_twice units entries twice name is h some), none)

-- ---- one name more in a register

found_all : (found : Option ℕ) → found ≡ if_none found None
found_all None = refl
found_all (Some place) = refl

-- nothing is added where the name has a place
pub first_stays : (places : List ℕ → Option ℕ) (name : List ℕ) (place : ℕ) → is_some (places name) ≡ true
    → (other : List ℕ) → places other ≡ with_first places name place other
first_stays places name place there other = go (bytes_eq name other) refl
  where
    full : (found second : Option ℕ) → is_some found ≡ true → found ≡ if_none found second
    full None second h = cc
    full (Some x) second h = refl

    go : (b : Bool) → bytes_eq name other ≡ b → places other ≡ if_none (places other) (cond b (Some place) None)
    go true e =
        full (places other) (Some place) (subst (λ n. is_some (places n) ≡ true) (bytes_same name other e) there)
    go false e = found_all (places other)

-- and where it has none the place is
pub first_inserted : (places after : List ℕ → Option ℕ) (name : List ℕ) (place : ℕ) → is_some (places name) ≡ false
    → ((other : List ℕ) → after other ≡ cond (bytes_eq name other) (Some place) (places other))
    → (other : List ℕ) → after other ≡ with_first places name place other
first_inserted places after name place none added other = added other ∙ go (bytes_eq name other) refl
  where
    nothing : (found : Option ℕ) → is_some found ≡ false → found ≡ None
    nothing None h = refl
    nothing (Some x) h = cc

    go : (b : Bool) → bytes_eq name other ≡ b
        → cond b (Some place) (places other) ≡ if_none (places other) (cond b (Some place) None)
    go true e =
        let empty : places other ≡ None =
        nothing (places other) (subst (λ n. is_some (places n) ≡ false) (bytes_same name other e) none) in
        sym (ap (λ found. if_none found (Some place)) empty)
    go false e = found_all (places other)
