-- The code of assignments to tags (ISO 10206, 6.5.3.3), over the place of the record.
use Rattle.std.specs.Prelude.{◌≡◌, ℕ, ℤ, pos, negsuc, suc, ◌+◌, ◌*◌, List, [], ◌∷◌, ◌++◌, length, if◌then◌else◌}
use Rattle.ep_gen_code.specs.Instructions.{◌▸◌, bare, instr, push}
use Rattle.ep_gen_expr.specs.ExprCode.{tests_code, two_code, IsExprCode}
use Rattle.ep_object.specs.declared.code.Instr.{Instr}
use Rattle.ep_object.specs.declared.code.Reference.{Reference}
use Rattle.ep_object.specs.declared.op.TheConstants as op
use Rattle.ep_typed.specs.Selections.{variant_number}
use Rattle.ep_typed.specs.Trees.{Tagging, Read, entire}
use Rattle.ep_values.specs.declared.operations.Binary.TheVariants as binary
use Rattle.ep_values.specs.declared.run_error.TheConstants as run_error
use Rattle.ep_typed.specs.declared.tree.CaseRange.{CaseRange}
use Rattle.ep_typed.specs.declared.tree.Selection.{Selection}

-- how many instructions try the labels of a variant, and those of variants
abbrev pub selection_length : List CaseRange → ℕ
selection_length [] = 0
selection_length (r ∷ rs) = 6 * length (r ∷ rs) + 4

abbrev pub selections_length : List (List CaseRange) → ℕ
selections_length [] = 0
selections_length (ranges ∷ more) = selection_length ranges + selections_length more

-- and how many give the number of the variant that is selected
abbrev pub number_length : Selection → ℕ
number_length s = selections_length s.labels + 2

-- what stands for no variant that was selected before, and for none that is now: no number of a variant, and not the
-- same
abbrev pub none_before : ℤ
none_before = negsuc 0

abbrev pub none_now : ℤ
none_now = negsuc 1

-- the number where no label has the value: that of the completing variant, or else the one that stands for none
abbrev pub rest_number : Selection → ℤ → ℤ
rest_number s none = if s.completed then pos (length s.labels) else none

module _ (line : ℕ) where
  -- over the place of a record: that of its tag
  abbrev pub tag_place_code : ℕ → List Instr
  tag_place_code tag = instr op.FIELD (pos tag) 0 line ∷ instr op.FIELD (pos 0) 0 line ∷ []

  -- a value is tried against bounds, and goes
  abbrev pub within_code : ℤ → ℤ → List Instr
  within_code low high =
      push line low ∷ push line high ∷ instr op.CHECK (pos run_error.OUTSIDE_TYPE) 0 line ∷ bare line op.DROP ∷ []

  -- With a value on top, from this place on: where a label of the variant with the number k has it, this number takes
  -- its
  -- place, and the code at another place comes next.
  abbrev pub selection_code : (leave k at : ℕ) → List CaseRange → List Instr
  selection_code leave k at [] = []
  selection_code leave k at (r ∷ rs) =
      tests_code line (at + 6 * length (r ∷ rs) + 1) at (r ∷ rs)
      ++ instr op.JUMP (pos (at + selection_length (r ∷ rs))) 0 line ∷ bare line op.DROP ∷ push line (pos k)
      ∷ instr op.JUMP (pos leave) 0 line ∷ []

  -- so it is with variants from that number on
  abbrev pub selections_code : (leave k at : ℕ) → List (List CaseRange) → List Instr
  selections_code leave k at [] = []
  selections_code leave k at (ranges ∷ more) =
      selection_code leave k at ranges ++ selections_code leave (suc k) (at + selection_length ranges) more

  -- With a value on top, from this place on: the number of the variant that it selects takes its place, or what stands
  -- for none.
  abbrev pub number_code : (at : ℕ) → Selection → (none : ℤ) → List Instr
  number_code at s none =
      selections_code (at + number_length s) 0 at s.labels ++ bare line op.DROP ∷ push line (rest_number s none) ∷ []

  -- With the place of a tag on top, from this place on: the number of the variant that it selects takes its place.
  abbrev pub selected_code : (at : ℕ) → Selection → List Instr
  selected_code at s =
      bare line op.DUP ∷ bare line op.DEFINED ∷ instr op.JUMP_FALSE (pos (at + 4 + number_length s + 1)) 0 line
      ∷ bare line op.LOAD
      ∷ (number_code (at + 4) s none_before ++ instr op.JUMP (pos (at + 4 + number_length s + 3)) 0 line
      ∷ bare line op.DROP ∷ push line none_before ∷ [])

  -- over the place of a record: its component with this number becomes undefined
  abbrev pub clear_code : ℕ → List Instr
  clear_code k = bare line op.DUP ∷ instr op.FIELD (pos k) 0 line ∷ bare line op.UNDEFINE ∷ []

  -- so does a variant with these labels, of which it has at least one
  abbrev pub cleared_code : ℕ → List CaseRange → List Instr
  cleared_code k [] = []
  cleared_code k (r ∷ rs) = clear_code k

  -- and those from this number on
  abbrev pub clears_code : ℕ → List (List CaseRange) → List Instr
  clears_code k [] = []
  clears_code k (ranges ∷ more) = cleared_code k ranges ++ clears_code (suc k) more

  -- and all variants
  abbrev pub variants_code : Selection → List Instr
  variants_code s =
      clears_code (variant_number s 0) s.labels
      ++ (if s.completed then clear_code (variant_number s (length s.labels)) else [])

module _ (texts : List (List ℕ)) (references : List Reference) where
  -- The place of the tag is left over that of the record, once the value in the auxiliary variable is tried.
  abbrev pub IsTriedCode : ℕ → ℕ → Tagging → Selection → List Instr → Type 0
  IsTriedCode line at c s is =
      (rs : List Instr) × IsExprCode texts references line (at + 3) (Read (entire c.value)) rs
      × (is ≡ bare line op.DUP ∷ instr op.FIELD (pos s.tag) 0 line ∷ instr op.FIELD (pos 0) 0 line
      ∷ (rs ++ push line c.low ∷ push line c.high ∷ instr op.CHECK (pos
      run_error.OUTSIDE_TYPE) 0 line ∷ bare line op.DROP ∷ []))

  -- With the number of a variant over the place of the record: where the value in the auxiliary variable selects
  -- another one,
  -- the variants become undefined.
  abbrev pub IsChangeCode : ℕ → ℕ → Tagging → Selection → List Instr → Type 0
  IsChangeCode line at c s is =
      (rs : List Instr) × IsExprCode texts references line at (Read (entire c.value)) rs
      × (is ≡ rs
      ++ (number_code line (at ▸ rs) s none_now ++ two_code line binary.Unequal
      ∷ instr op.JUMP_FALSE (pos (at ▸ rs + number_length s + 2 ▸ variants_code line s)) 0 line
      ∷ variants_code line s))

  -- the tag of the record gets the value in the auxiliary variable
  abbrev pub IsTakenCode : ℕ → ℕ → Tagging → Selection → List Instr → Type 0
  IsTakenCode line at c s is =
      (rs : List Instr) × IsExprCode texts references line (at + 2) (Read (entire c.value)) rs
      × (is ≡ instr op.FIELD (pos s.tag) 0 line ∷ instr op.FIELD (pos 0) 0 line ∷ (rs ++ bare line op.STORE ∷ []))

-- how many instructions leave the number of the variant that a tag selects
abbrev pub selected_length : Selection → ℕ
selected_length s = 4 + number_length s + 3
