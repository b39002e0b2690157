-- The words with which variables of a type value begin (ISO 10206, 6.6).
use Rattle.std.specs.Prelude.{◌≡◌, ℕ, ℤ, zero, suc, IsTrue, List, [], ◌∷◌, ◌++◌, Option, Some, None, cond, replicate}
use Rattle.std.specs.Prelude.{⊤}
use Rattle.ep_object.specs.Sets.{IsSet, are_between, set_size, words_of_set}
use Rattle.ep_object.specs.State.{undefined}
use Rattle.ep_object.specs.Types.{repeated}
use Rattle.ep_values.specs.Bounds.{count_of}
use Rattle.ep_values.specs.TypeValues.{is_within}
use Rattle.ep_values.specs.TypeValues.{ComponentTypes, Start, Starts, TypeValue, is_started, no_component}
use Rattle.ep_values.specs.TypeValues.{next_component, no_start, next_start, parts_start, simple_start, set_start}
use Rattle.ep_values.specs.TypeValues.{undefined_start}
use Rattle.ep_values.specs.TypeValues as type

abbrev mutual
  -- those of an initial state
  pub words_of_start : Start → List ℤ
  words_of_start (undefined_start size) = replicate size undefined
  words_of_start (simple_start w) = w ∷ []
  words_of_start (set_start ms) = words_of_set ms
  words_of_start (parts_start ss) = words_of_starts ss

  -- those of components, one behind the other
  pub words_of_starts : Starts → List ℤ
  words_of_starts no_start = []
  words_of_starts (next_start s ss) = words_of_start s ++ words_of_starts ss

abbrev mutual
  -- those of a type value: what begins undefined has undefined words
  pub start_words : TypeValue → List ℤ
  start_words (type.Ordinal low high) = undefined ∷ []
  start_words type.Text = undefined ∷ []
  start_words (type.Array low high of) = repeated (count_of low high) (start_words of)
  start_words (type.Record ts) = start_words_of_each ts
  start_words (type.Set low high) = replicate set_size undefined
  start_words (type.Initial of start) = words_of_start start

  -- those of components, one behind the other
  pub start_words_of_each : ComponentTypes → List ℤ
  start_words_of_each no_component = []
  start_words_of_each (next_component t ts) = start_words t ++ start_words_of_each ts

-- those that a type keeps: none where no initial state is given
abbrev pub words_kept : TypeValue → Option (List ℤ)
words_kept t = cond (is_started t) (Some (start_words t)) None

-- ---- initial states that are values of their types

-- there are so many of which this holds
abbrev pub AllStarts : (Start → Type 0) → ℕ → Starts → Type 0
AllStarts P zero no_start = ⊤
AllStarts P zero (next_start s ss) = ⊥
AllStarts P (suc n) no_start = ⊥
AllStarts P (suc n) (next_start s ss) = P s × AllStarts P n ss

abbrev mutual
  -- a variable of the type may begin so
  pub IsStartOf : TypeValue → Start → Type 0
  IsStartOf (type.Ordinal low high) (undefined_start size) = size ≡ 1
  IsStartOf (type.Ordinal low high) (simple_start w) = IsTrue (is_within (type.Ordinal low high) w)
  IsStartOf (type.Ordinal low high) (set_start ms) = ⊥
  IsStartOf (type.Ordinal low high) (parts_start ss) = ⊥
  IsStartOf type.Text start = ⊥
  IsStartOf (type.Array low high of) (undefined_start size) = ⊥
  IsStartOf (type.Array low high of) (simple_start w) = ⊥
  IsStartOf (type.Array low high of) (set_start ms) = ⊥
  IsStartOf (type.Array low high of) (parts_start ss) = AllStarts (λ s. IsStartOf of s) (count_of low high) ss
  IsStartOf (type.Record ts) (undefined_start size) = ⊥
  IsStartOf (type.Record ts) (simple_start w) = ⊥
  IsStartOf (type.Record ts) (set_start ms) = ⊥
  IsStartOf (type.Record ts) (parts_start ss) = AreStartsOf ts ss
  IsStartOf (type.Set low high) (undefined_start size) = size ≡ set_size
  IsStartOf (type.Set low high) (simple_start w) = ⊥
  IsStartOf (type.Set low high) (set_start ms) = IsSet ms × IsTrue (are_between low high ms)
  IsStartOf (type.Set low high) (parts_start ss) = ⊥
  IsStartOf (type.Initial of other) start = IsStartOf of start

  -- components may, one for one
  pub AreStartsOf : ComponentTypes → Starts → Type 0
  AreStartsOf no_component no_start = ⊤
  AreStartsOf no_component (next_start s ss) = ⊥
  AreStartsOf (next_component t ts) no_start = ⊥
  AreStartsOf (next_component t ts) (next_start s ss) = IsStartOf t s × AreStartsOf ts ss

abbrev mutual
  -- every initial state in a type value is one of its type
  pub AreStarts : TypeValue → Type 0
  AreStarts (type.Ordinal low high) = ⊤
  AreStarts type.Text = ⊤
  AreStarts (type.Array low high of) = AreStarts of
  AreStarts (type.Record ts) = AreStartsOfEach ts
  AreStarts (type.Set low high) = ⊤
  AreStarts (type.Initial of start) = IsStartOf of start × AreStarts of

  pub AreStartsOfEach : ComponentTypes → Type 0
  AreStartsOfEach no_component = ⊤
  AreStartsOfEach (next_component t ts) = AreStarts t × AreStartsOfEach ts
