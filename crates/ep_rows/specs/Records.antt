-- What the row that makes record types comes through.
use Rattle.std.specs.Prelude.{◌≡◌, ◌||◌, ℕ, ℤ, Bool, false, cond, is_some, List, [], ◌∷◌, Option, None, Some}
use Rattle.std.specs.Prelude.{option_map}
use Rattle.ep_object.specs.Operands.{Operand, Word}
use Rattle.ep_object.specs.State.{TypeTable}
use Rattle.ep_object.specs.Types.{Numbered, any_bare, bare_forms, entries_of, entry_of, parts_behind, record_entry}
use Rattle.ep_object.specs.Types.{record_over, record_start, starts_joined, words_behind}
use Rattle.ep_object.specs.declared.state.RecordPart.{RecordPart}
use Rattle.ep_object.specs.declared.state.TypeEntry.{TypeEntry}
use Rattle.ep_rows.specs.declared.step.Step.{Step}
use Rattle.ep_rows.specs.declared.step.Step.TheVariants.{Full, NoMemory}

-- operands with these words over them, the last one on top
abbrev pub pushed : List ℤ → List Operand → List Operand
pushed [] st = st
pushed (w ∷ ws) st = pushed ws (Word w ∷ st)

-- the words are on top again, and the instruction is not begun
abbrev pub IsPutBack : Step → List ℤ → List Operand → List Operand → Type 0
IsPutBack Full ws old new = new ≡ pushed ws old
IsPutBack NoMemory ws old new = Unit {0}
IsPutBack _ ws old new = ⊥

-- how many words components of the types with these numbers have in all
abbrev pub words_of_all : TypeTable → List ℤ → Option ℕ
words_of_all types zs = option_map (words_behind 0) (entries_of types zs)

-- components of the types with these numbers, one behind the other
abbrev pub parts_of_all : TypeTable → List ℤ → Option (List RecordPart)
parts_of_all types zs = option_map (parts_behind 0) (entries_of types zs)

-- the same with the bare forms of the types
abbrev pub bare_parts_of_all : TypeTable → List ℤ → Option (List RecordPart)
bare_parts_of_all types zs = option_map (λ ns. parts_behind 0 (bare_forms ns)) (entries_of types zs)

-- whether a type has another bare form, and whether it begins with words
abbrev pub has_bare : TypeEntry → Bool
has_bare e = is_some e.bare

abbrev pub has_start : TypeEntry → Bool
has_start e = is_some e.start

-- whether the type that a word numbers is there and passes, and whether one of those does that words number
abbrev pub passes : (TypeEntry → Bool) → Option Numbered → Bool
passes p None = false
passes p (Some n) = p n.entry

abbrev pub one_passes : (TypeEntry → Bool) → TypeTable → List ℤ → Bool
one_passes p types [] = false
one_passes p types (z ∷ zs) = passes p (entry_of types z) || one_passes p types zs

-- what variables of the types begin with, one behind the other
abbrev pub starts_of_all : TypeTable → List ℤ → Option (List ℤ)
starts_of_all types zs = option_map starts_joined (entries_of types zs)

-- the words that a record of them begins with, where one of them begins with words
abbrev pub start_of_all : TypeTable → List ℤ → Option (Option (List ℤ))
start_of_all types zs = option_map record_start (entries_of types zs)

-- the record of them with so many words, without its bare form, and the bare form, where it has another one
abbrev pub whole_of : TypeTable → List ℤ → ℕ → Option TypeEntry
whole_of types zs size =
    option_map (λ ns. record_over (parts_behind 0 ns) size (record_start ns) None) (entries_of types zs)

abbrev pub bare_of_all : TypeTable → List ℤ → ℕ → Option (Option TypeEntry)
bare_of_all types zs size =
    option_map (λ ns. cond (any_bare ns) (Some (record_entry (parts_behind 0 (bare_forms ns)) size)) None)
    (entries_of types zs)
