-- The segment of a new variable of a type: how many words it has, and that they hold the initial state.
use Rattle.std.proofs.Common.{◌≡◌, ℕ, ◌+◌, ◌<◌, true, false, Bool, cond, length, Option, Some, None, slice_get, refl, ap, arith}
use Rattle.std.proofs.lemmas.Option.{slice_get_within}
use Rattle.ep_simulation.specs.Matching.{Describes, HasAt, Injection}
use Rattle.ep_object.specs.Places.{fresh_segment}
use Rattle.ep_simulation.specs.Starts.{AreStarts, start_words, words_kept}
use Rattle.ep_object.specs.State.{TypeTable, size_begun}
use Rattle.ep_object.specs.declared.state.TypeKind.{TypeKind}
use Rattle.ep_object.specs.declared.state.Segment.{Segment}
use Rattle.ep_simulation.proofs.public.matching.MoreMemory.{entry_as}
use Rattle.ep_simulation.proofs.matching.Starting.{begun_words, starts_hold, starts_length}
use Rattle.ep_values.specs.Values.{start_of}
use Rattle.ep_values.specs.TypeValues.{TypeValue, is_started, size_of}
use Rattle.ep_meaning.specs.Valid.{IsTypeValue}

-- the segment, which begins with the words of the type value
abbrev pub new_segment : ℕ → TypeValue → Segment
new_segment number t = record { type_number = number; words = start_words t }

-- the type that describes a type value has its size
pub record HasEntry (types : TypeTable) (number : ℕ) (t : TypeValue) : Type 0 where
  pub kind : TypeKind
  pub bare : Option ℕ
  pub is : slice_get types number ≡ Some (entry_as t kind bare)

pub has_entry : (types : TypeTable) (number : ℕ) (t : TypeValue) → Describes types number t → HasEntry types number t
has_entry types number t d = record { kind = d.kind; bare = d.bare; is = d.stands }

-- its number is one of the table
pub described_within : (types : TypeTable) (number : ℕ) (t : TypeValue) → Describes types number t → number < length types
described_within types number t d = slice_get_within types number (entry_as t d.kind d.bare) d.stands

-- what the machine makes is that segment
pub fresh_is : (number : ℕ) (t : TypeValue) (kind : TypeKind) (bare : Option ℕ) → fresh_segment number (entry_as t kind bare) ≡ new_segment number t
fresh_is number t kind bare = ap (λ words. record { type_number = number; words = words }) (begun_words t)

-- with as many words as the type value has
pub size_is : (t : TypeValue) → AreStarts t → size_begun (size_of t) (words_kept t) ≡ size_of t
size_is t starts = go (is_started t)
  where
    go : (b : Bool) → size_begun (size_of t) (cond b (Some (start_words t)) None) ≡ size_of t
    go true = starts_length t starts
    go false = refl

-- which hold the initial state
pub fresh_holds : (injection : Injection) (t : TypeValue) → IsTypeValue t → AreStarts t
    → HasAt injection t (start_of t) (slice_get (start_words t)) 0
fresh_holds injection t valid starts = starts_hold injection t (slice_get (start_words t)) 0 valid starts (λ i within. let same : 0 + i ≡ i = omega arith in ap (slice_get (start_words t)) same)
