-- Names with the places that they come from.
use Rattle.std.specs.Prelude.{ℕ, ◌<◌, List, [], ◌∷◌, Option, Some, None, map, if◌then◌else◌, MatchOption}
use Rattle.std.specs.List.{count_by}
use Rattle.std.specs.Str.{bytes_eq}
use Rattle.std.specs.Ordering.{is_lt, nat_cmp}
use Rattle.std.specs.Cmp.Lexicographic.{slice_cmp}
use Rattle.std.specs.BTreeMap.{get_by}
use Rattle.ep_linkable.specs.declared.register.Entry.{Entry}
use Rattle.ep_linkable.specs.declared.register.Register.{Register}
use Rattle.ep_linkable.specs.Refusals.{IsLeastTwice}

-- a name and a place
pub record NamedPlace : Type 0 where
  pub name : List ℕ
  pub place : ℕ

-- the names and places of entries
abbrev pub seen : List Entry → List NamedPlace
seen entries = map (λ entry. record { name = entry.name.now; place = entry.place }) entries

-- the place that the register has under a name
abbrev pub place_under : Register → List ℕ → Option ℕ
place_under register name = get_by (λ key. slice_cmp nat_cmp name key.now) register.places

-- the first place of a name
abbrev pub place_in : List NamedPlace → List ℕ → Option ℕ
place_in [] name = None
place_in (entry ∷ entries) name = if bytes_eq entry.name name then Some entry.place else place_in entries name

-- how often a name stands there
abbrev pub count_in : List NamedPlace → List ℕ → ℕ
count_in entries name = count_by (λ entry. bytes_eq name entry.name) entries

-- the least name that stands there twice, if there is one
abbrev pub IsTwice : List NamedPlace → Option (List ℕ) → Type 0
IsTwice entries twice = MatchOption twice ((name : List ℕ) → count_in entries name < 2)
    (IsLeastTwice (count_in entries))

-- what is there, or else this
abbrev pub if_none : Option ℕ → Option ℕ → Option ℕ
if_none None second = second
if_none (Some place) second = Some place

-- the places by name when a name has come from a place, of which the first place counts
abbrev pub with_first : (List ℕ → Option ℕ) → List ℕ → ℕ → List ℕ → Option ℕ
with_first places name place other = if_none (places other) (if bytes_eq name other then Some place else None)

-- the lesser one of two names, the first of which may be missing
abbrev pub lesser : Option (List ℕ) → List ℕ → List ℕ
lesser None second = second
lesser (Some first) second = if is_lt (slice_cmp nat_cmp second first) then second else first

-- the least name that stands twice when one has come that had this place or none
abbrev pub twice_after : Option ℕ → Option (List ℕ) → List ℕ → Option (List ℕ)
twice_after None twice name = twice
twice_after (Some place) twice name = Some (lesser twice name)
