-- How many instructions an assignment to a tag is.
use Rattle.std.proofs.Common.{◌≡◌, ℕ, ℤ, pos, suc, ◌+◌, ◌*◌, ◌≤◌, Bool, true, false, List, [], ◌∷◌, length, length-append, refl, arith}
use Rattle.std.specs.Prelude.{if◌then◌else◌}
use Rattle.ep_gen_code.specs.Instructions.{bare, instr, push}
use Rattle.ep_gen_expr.specs.ExprCode.{tests_code}
use Rattle.ep_gen_expr.proofs.public.Stays.{tests_length}
use Rattle.ep_gen_unit.specs.TagCode.{clear_code, cleared_code, clears_code, none_before, number_code, number_length, rest_number, selected_code, selected_length, selection_code, selection_length, selections_code, selections_length, variants_code}
use Rattle.ep_object.specs.declared.code.Instr.{Instr}
use Rattle.ep_object.specs.declared.op.TheConstants as op
use Rattle.ep_typed.specs.Selections.{labels_nodes}
use Rattle.ep_typed.specs.Selections.{variant_number}
use Rattle.ep_typed.specs.declared.tree.CaseRange.{CaseRange}
use Rattle.ep_typed.specs.declared.tree.Selection.{Selection}

pub selection_code_length : (line leave k at : ℕ) (ranges : List CaseRange) → length (selection_code line leave k at ranges) ≡ selection_length ranges
selection_code_length line leave k at [] = refl
selection_code_length line leave k at (r ∷ rs) =
    let ts : List Instr = tests_code line (at + 6 * length (r ∷ rs) + 1) at (r ∷ rs) in
    let arm : List Instr = instr op.JUMP (pos (at + selection_length (r ∷ rs))) 0 line ∷ bare line op.DROP ∷ push line (pos k) ∷ instr op.JUMP (pos leave) 0 line ∷ [] in
    omega (arith, length-append ts arm, tests_length line (at + 6 * length (r ∷ rs) + 1) at (r ∷ rs))

pub selections_code_length : (line leave k at : ℕ) (labels : List (List CaseRange)) → length (selections_code line leave k at labels) ≡ selections_length labels
selections_code_length line leave k at [] = refl
selections_code_length line leave k at (ranges ∷ more) =
    omega (arith, length-append (selection_code line leave k at ranges) (selections_code line leave (suc k) (at + selection_length ranges) more), selection_code_length line leave k at ranges, selections_code_length line leave (suc k) (at + selection_length ranges) more)

pub number_code_length : (line at : ℕ) (s : Selection) (none : ℤ) → length (number_code line at s none) ≡ number_length s
number_code_length line at s none =
    omega (arith, length-append (selections_code line (at + number_length s) 0 at s.labels) (bare line op.DROP ∷ push line (rest_number s none) ∷ []), selections_code_length line (at + number_length s) 0 at s.labels)

pub selected_code_length : (line at : ℕ) (s : Selection) → length (selected_code line at s) ≡ selected_length s
selected_code_length line at s =
    omega (arith, length-append (number_code line (at + 4) s none_before) (instr op.JUMP (pos (at + 4 + number_length s + 3)) 0 line ∷ bare line op.DROP ∷ push line none_before ∷ []), number_code_length line (at + 4) s none_before)

-- the tests are no more than four for each node of the labels, and what makes variants undefined no more than one
selection_short : (ranges : List CaseRange) → selection_length ranges ≤ 12 * length ranges
selection_short [] = omega arith
selection_short (r ∷ rs) = omega arith

pub selections_short : (labels : List (List CaseRange)) → selections_length labels ≤ 4 * labels_nodes labels
selections_short [] = omega arith
selections_short (ranges ∷ more) = omega (arith, selection_short ranges, selections_short more)

cleared_short : (line k : ℕ) (ranges : List CaseRange) → length (cleared_code line k ranges) ≤ 3 * length ranges
cleared_short line k [] = omega arith
cleared_short line k (r ∷ rs) = omega arith

clears_short : (line k : ℕ) (labels : List (List CaseRange)) → length (clears_code line k labels) ≤ labels_nodes labels
clears_short line k [] = omega arith
clears_short line k (ranges ∷ more) = omega (arith, length-append (cleared_code line k ranges) (clears_code line (suc k) more), cleared_short line k ranges, clears_short line (suc k) more)

completing_short : (line k : ℕ) (completed : Bool) → length (if completed then clear_code line k else []) ≤ 3
completing_short line k true = omega arith
completing_short line k false = omega arith

pub variants_short : (line : ℕ) (s : Selection) → length (variants_code line s) ≤ labels_nodes s.labels + 3
variants_short line s =
    omega (arith, length-append (clears_code line (variant_number s 0) s.labels) (if s.completed then clear_code line (variant_number s (length s.labels)) else []), clears_short line (variant_number s 0) s.labels, completing_short line (variant_number s (length s.labels)) s.completed)
