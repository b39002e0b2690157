-- Code stays code when the tables grow, and is short.
use Rattle.std.proofs.Common.{◌≡◌, ℕ, ℤ, pos, zero, suc, ◌+◌, ◌*◌, ◌≤◌, Bool, true, false, List, [], ◌∷◌, ◌++◌, length, refl, sym, ap, ◌∙◌, append_assoc, arith, length-append}
use Rattle.std.specs.Prelude.{if◌then◌else◌}
use Rattle.ep_outside.specs.Known.{IsPrefix}
use Rattle.ep_object.specs.declared.code.Instr.{Instr}
use Rattle.ep_object.specs.declared.code.Reference.{Reference}
use Rattle.ep_typed.specs.Trees.{Structured, Element, AtIndex, AtField, SameField, AtRanges, AtIndexes, Elements, no_element, next_element, Place, Variable, Own, Standard, Indexed, Field, Variant, Expr, Constant, Text, Read, One, Two, Short, Step, Function, IndexedValue, FieldValue, VariantValue, SetConstant, SetOf, OnSets, Card, Designator, Single, Range, Designators, no_member, next_member, Actual, Evaluated, Accessed, Actuals, no_actual, next_actual}
use Rattle.ep_values.specs.declared.operations.Unary.{Unary}
use Rattle.ep_values.specs.declared.operations.Unary.TheVariants as unary
use Rattle.ep_values.specs.declared.operations.ShortOperation.{ShortOperation}
use Rattle.ep_values.specs.declared.operations.ShortOperation.TheVariants as short
use Rattle.ep_typed.specs.Nodes.{place_nodes, expr_nodes, actual_nodes, actuals_nodes, element_nodes, elements_nodes, designator_nodes, designators_count, designators_nodes}
use Rattle.ep_typed.specs.Selections.{labels_nodes}
use Rattle.ep_meaning.specs.Steps.{is_number}
use Rattle.ep_typed.specs.declared.tree.CaseRange.{CaseRange}
use Rattle.ep_typed.specs.declared.tree.Selection.{Selection}
use Rattle.ep_gen_expr.specs.ExprCode.{first_code, first_index, range_code, ranges_code, IsElementCode, AreElementsCode, IsRangeCode, AreIndexesCode, spread_code, spread_length, spreads_code, tested_code, end_code, IsPlaceCode, IsExprCode, IsActualCode, AreActualsCode, IsDesignatorCode, AreDesignatorsCode, one_code, set_code, two_code, keep_code, step_code, test_code, tests_code, bad_place, labels_code, labels_count, tag_code, tag_part_code, rest_code, ends_code, selecting_code, variant_code, variant_part_code, steps_code, reach_code, same_code}
use Rattle.ep_gen_code.specs.Instructions.{instr, reference, members_code, bare}
use Rattle.ep_gen_code.specs.declared.references.TheConstants as routine
use Rattle.ep_gen_code.proofs.public.Pushed.{get_later}
use Rattle.ep_object.specs.declared.op.TheConstants as op

module _ (ts us : List (List ℕ)) (rs ss : List Reference) (line : ℕ) (a : IsPrefix ts us) (b : IsPrefix rs ss) where
  mutual
    -- the code of a place
    pub place_code_stays : (at : ℕ) (p : Place) (is : List Instr) → IsPlaceCode ts rs line at p is → IsPlaceCode us ss line at p is
    place_code_stays at (Variable unit number) is h = (h.0, get_later h.0 (reference unit number) b h.1, h.2)
    place_code_stays at (Own levels number) is h = h
    place_code_stays at (Standard file) is h = h
    place_code_stays at (Indexed p x) is h = (h.0, h.1, place_code_stays at p h.0 h.2, expr_code_stays (at + length h.0) x h.1 h.3, h.4)
    place_code_stays at (Field p number) is h = (h.0, place_code_stays at p h.0 h.1, h.2)
    place_code_stays at (Variant p selection number) is h = (h.0, place_code_stays at p h.0 h.1, h.2)

    -- that of an expression
    pub expr_code_stays : (at : ℕ) (x : Expr) (is : List Instr) → IsExprCode ts rs line at x is → IsExprCode us ss line at x is
    expr_code_stays at (Constant z) is h = h
    expr_code_stays at (Text bytes) is h = (h.0, get_later h.0 bytes a h.1, h.2)
    expr_code_stays at (Read p) is h = (h.0, place_code_stays at p h.0 h.1, h.2)
    expr_code_stays at (One operation x) is h = (h.0, expr_code_stays at x h.0 h.1, h.2)
    expr_code_stays at (Two operation x y) is h = (h.0, h.1, expr_code_stays at x h.0 h.2, expr_code_stays (at + length h.0) y h.1 h.3, h.4)
    expr_code_stays at (Short operation x y) is h =
        (h.0, h.1, expr_code_stays at x h.0 h.2, expr_code_stays (at + length h.0 + length (keep_code line operation) + 2) y h.1 h.3, h.4)
    expr_code_stays at (Step down low high x n) is h = (h.0, h.1, expr_code_stays at x h.0 h.2, expr_code_stays (at + length h.0) n h.1 h.3, h.4)
    expr_code_stays at (Function callee given) is h = (h.0, h.1, actuals_code_stays at given h.0 h.2, get_later h.1 (reference callee.unit callee.number) b h.3, h.4)
    expr_code_stays at (IndexedValue x y) is h = (h.0, h.1, expr_code_stays at x h.0 h.2, expr_code_stays (at + length h.0) y h.1 h.3, h.4)
    expr_code_stays at (FieldValue x number) is h = (h.0, expr_code_stays at x h.0 h.1, h.2)
    expr_code_stays at (VariantValue x selection number) is h = (h.0, expr_code_stays at x h.0 h.1, h.2)
    expr_code_stays at (SetConstant ms) is h = h
    expr_code_stays at (SetOf ds) is h = (h.0, designators_code_stays (at + 1) ds h.0 h.1, h.2)
    expr_code_stays at (OnSets operation x y) is h = (h.0, h.1, expr_code_stays at x h.0 h.2, expr_code_stays (at + length h.0) y h.1 h.3, h.4)
    expr_code_stays at (Card x) is h = (h.0, expr_code_stays at x h.0 h.1, h.2)
    expr_code_stays at (Structured number es) is h = (h.0, elements_code_stays (at + 4) es h.0 h.1, h.2)

    -- that of what components are given
    pub element_code_stays : (at : ℕ) (e : Element) (is : List Instr) → IsElementCode ts rs line at e is → IsElementCode us ss line at e is
    element_code_stays at (AtIndex x y) is h = (h.0, h.1, expr_code_stays (at + 1) x h.0 h.2, expr_code_stays (at + 1 + length h.0 + 1) y h.1 h.3, h.4)
    element_code_stays at (AtField steps x) is h = (h.0, expr_code_stays (at + length (reach_code line steps)) x h.0 h.1, h.2)
    element_code_stays at (SameField from to) is h = h
    element_code_stays at (AtRanges ranges x) is h = (h.0, expr_code_stays (at + length (first_code line ranges)) x h.0 h.1, h.2)
    element_code_stays at (AtIndexes ds x) is h = (h.0, h.1, indexes_code_stays at ds h.0 h.2, expr_code_stays (at + length h.0) x h.1 h.3, h.4)

    -- that of the indexes of ranges
    pub range_code_stays : (at : ℕ) (d : Designator) (is : List Instr) → IsRangeCode ts rs line at d is → IsRangeCode us ss line at d is
    range_code_stays at (Single x) is h = (h.0, expr_code_stays at x h.0 h.1, h.2)
    range_code_stays at (Range x y) is h = (h.0, h.1, expr_code_stays at x h.0 h.2, expr_code_stays (at + length h.0) y h.1 h.3, h.4)

    pub indexes_code_stays : (at : ℕ) (ds : Designators) (is : List Instr) → AreIndexesCode ts rs line at ds is → AreIndexesCode us ss line at ds is
    indexes_code_stays at no_member is h = h
    indexes_code_stays at (next_member d more) is h = (h.0, h.1, range_code_stays at d h.0 h.2, indexes_code_stays (at + length h.0) more h.1 h.3, h.4)

    pub elements_code_stays : (at : ℕ) (es : Elements) (is : List Instr) → AreElementsCode ts rs line at es is → AreElementsCode us ss line at es is
    elements_code_stays at no_element is h = h
    elements_code_stays at (next_element e more) is h = (h.0, h.1, element_code_stays at e h.0 h.2, elements_code_stays (at + length h.0) more h.1 h.3, h.4)

    -- that of member designators
    pub designator_code_stays : (at : ℕ) (d : Designator) (is : List Instr) → IsDesignatorCode ts rs line at d is → IsDesignatorCode us ss line at d is
    designator_code_stays at (Single x) is h = (h.0, expr_code_stays at x h.0 h.1, h.2)
    designator_code_stays at (Range x y) is h = (h.0, h.1, expr_code_stays at x h.0 h.2, expr_code_stays (at + length h.0) y h.1 h.3, h.4)

    pub designators_code_stays : (at : ℕ) (ds : Designators) (is : List Instr) → AreDesignatorsCode ts rs line at ds is → AreDesignatorsCode us ss line at ds is
    designators_code_stays at no_member is h = h
    designators_code_stays at (next_member d more) is h = (h.0, h.1, designator_code_stays at d h.0 h.2, designators_code_stays (at + length h.0) more h.1 h.3, h.4)

    -- that of an actual parameter
    pub actual_code_stays : (at : ℕ) (x : Actual) (is : List Instr) → IsActualCode ts rs line at x is → IsActualCode us ss line at x is
    actual_code_stays at (Evaluated x) is h = expr_code_stays at x is h
    actual_code_stays at (Accessed p) is h = place_code_stays at p is h

    -- and that of actual parameters
    pub actuals_code_stays : (at : ℕ) (given : Actuals) (is : List Instr) → AreActualsCode ts rs line at given is → AreActualsCode us ss line at given is
    actuals_code_stays at no_actual is h = h
    actuals_code_stays at (next_actual x more) is h = (h.0, h.1, actual_code_stays at x h.0 h.2, actuals_code_stays (at + length h.0) more h.1 h.3, h.4)

one_short : (line : ℕ) (operation : Unary) → length (one_code line operation) ≤ 3
one_short line unary.Same = omega arith
one_short line unary.Negate = omega arith
one_short line unary.Not = omega arith
one_short line unary.Absolute = omega arith
one_short line unary.Square = omega arith
one_short line unary.Odd = omega arith
one_short line unary.Character = omega arith

step_short : (line : ℕ) (down : Bool) (low high : ℤ) → length (step_code line down low high) ≤ 4
step_short line false low high = omega arith
step_short line true low high = omega arith

keep_short : (line : ℕ) (operation : ShortOperation) → length (keep_code line operation) ≤ 2
keep_short line short.AndThen = omega arith
keep_short line short.OrElse = omega arith

short_short : (xs ks ys : List Instr) (i j : Instr) (is : List Instr) → is ≡ xs ++ (ks ++ i ∷ j ∷ ys) → (k m : ℕ) → length ks ≤ 2 → length xs + 8 ≤ 32 * k → length ys + 8 ≤ 32 * m → length is + 8 ≤ 32 * (1 + k + m)
short_short xs ks ys i j is e k m few p q = omega (arith, ap length e, length-append xs (ks ++ i ∷ j ∷ ys), length-append ks (i ∷ j ∷ ys), few, p, q)

-- how many instructions the tests of ranges are
pub tests_length : (line body at : ℕ) (rs : List CaseRange) → length (tests_code line body at rs) ≡ 6 * length rs
tests_length line body at [] = refl
tests_length line body at (r ∷ rs) = omega (arith, length-append (test_code line body at r) (tests_code line body (at + 6) rs), tests_length line body (at + 6) rs)

-- and those of labels
pub labels_length : (line good bad number k at : ℕ) (labels : List (List CaseRange)) → length (labels_code line good bad number k at labels) ≡ 6 * labels_count labels
labels_length line good bad number k at [] = refl
labels_length line good bad number k at (ranges ∷ more) =
    let body = if is_number k number then good else bad in
    omega (arith, length-append (tests_code line body at ranges) (labels_code line good bad number (suc k) (at + 6 * length ranges) more), tests_length line body at ranges, labels_length line good bad number (suc k) (at + 6 * length ranges) more)

labels_three : (labels : List (List CaseRange)) → labels_nodes labels ≡ 3 * labels_count labels
labels_three [] = refl
labels_three (ranges ∷ more) = omega (arith, labels_three more)

-- how many those behind the value of a tag are
pub selecting_length : (line at : ℕ) (s : Selection) (number : ℕ) → length (selecting_code line at s number) ≡ 4 + 6 * labels_count s.labels
selecting_length line at s number =
    let ls = labels_code line (bad_place at s + 1) (bad_place at s) number 0 at s.labels in
    let last = rest_code line (bad_place at s + 1) (bad_place at s) s number ∷ ends_code line s number in
    omega (arith, length-append ls last, labels_length line (bad_place at s + 1) (bad_place at s) number 0 at s.labels)

-- and those of a variant
pub variant_length : (line at : ℕ) (s : Selection) (number : ℕ) → length (variant_code line at s number) ≡ 11 + 6 * labels_count s.labels
variant_length line at s number = omega (arith, length-append (tag_code line (bad_place (at + 7) s) s.tag) (selecting_code line (at + 7) s number), selecting_length line (at + 7) s number)

pub variant_part_length : (line at : ℕ) (s : Selection) (number : ℕ) → length (variant_part_code line at s number) ≡ 10 + 6 * labels_count s.labels
variant_part_length line at s number = omega (arith, length-append (tag_part_code line (bad_place (at + 6) s) s.tag) (selecting_code line (at + 6) s number), selecting_length line (at + 6) s number)

variant_short : (xs : List Instr) (line at : ℕ) (s : Selection) (number : ℕ) (is : List Instr) → is ≡ xs ++ variant_code line at s number → (k : ℕ) → length xs ≤ 32 * k → length is ≤ 32 * (1 + k + labels_nodes s.labels)
variant_short xs line at s number is e k p = omega (arith, ap length e, length-append xs (variant_code line at s number), variant_length line at s number, labels_three s.labels, p)

variant_part_short : (xs : List Instr) (line at : ℕ) (s : Selection) (number : ℕ) (is : List Instr) → is ≡ xs ++ variant_part_code line at s number → (k : ℕ) → length xs + 8 ≤ 32 * k → length is + 8 ≤ 32 * (1 + k + labels_nodes s.labels)
variant_part_short xs line at s number is e k p = omega (arith, ap length e, length-append xs (variant_part_code line at s number), variant_part_length line at s number, labels_three s.labels, p)

-- two instructions for each member
members_short : (line : ℕ) (ms : List ℕ) → length (members_code line ms) ≡ 2 * length ms
members_short line [] = omega arith
members_short line (m ∷ ms) = let rest = members_short line ms in omega (arith, rest)

-- one instruction for each step
pub steps_length : (line : ℕ) (steps : List ℕ) → length (steps_code line steps) ≡ length steps
steps_length line [] = refl
steps_length line (k ∷ ks) = ap suc (steps_length line ks)

-- and five besides for what is the same as another component
same_length : (line : ℕ) (from to : List ℕ) → length (same_code line from to) ≡ 5 + length from + length to
same_length line from to =
    let last : List Instr = steps_code line from ++ bare line op.LOAD ∷ bare line op.STORE ∷ [] in
    omega (arith, length-append (reach_code line to) (instr op.CALL (pos routine.SWAP) 0 line ∷ last), length-append (steps_code line from) (bare line op.LOAD ∷ bare line op.STORE ∷ []), steps_length line from, steps_length line to)

-- five for each range
ranges_length : (line : ℕ) (from : ℤ) (rs : List CaseRange) → length (ranges_code line from rs) ≡ 5 * length rs
ranges_length line from [] = refl
ranges_length line from (r ∷ rs) = omega (arith, length-append (range_code line from r) (ranges_code line from rs), ranges_length line from rs)

-- fifteen for each range whose components get a value
pub spreads_length : (line at n : ℕ) → length (spreads_code line at n) ≡ 15 * n
spreads_length line at zero = refl
spreads_length line at (suc n) = let before = spreads_length line at n in omega (arith, length-append (spreads_code line at n) (spread_code line (at + spread_length * n)), before)

-- indexes that are tested are short, with the instructions that give a value to their components
range_short : (xs rest is : List Instr) → is ≡ xs ++ rest → (k : ℕ) → length xs ≤ 32 * k → length rest ≤ 6 → length is + 15 ≤ 32 * (1 + k)
range_short xs rest is e k p few = omega (arith, ap length e, length-append xs rest, p, few)

-- a call behind code that is short, and one more instruction
call_short : (xs : List Instr) (i j : Instr) (is : List Instr) → is ≡ xs ++ i ∷ j ∷ [] → (k : ℕ) → length xs ≤ 32 * k → length is + 8 ≤ 32 * (1 + k)
call_short xs i j is e k p = omega (arith, ap length e, length-append xs (i ∷ j ∷ []), p)

-- one more instruction behind code of two parts that is short
index_short : (xs ys : List Instr) (i : Instr) (is : List Instr) → is ≡ xs ++ (ys ++ i ∷ []) → (k m : ℕ) → length xs ≤ 32 * k → length ys + 8 ≤ 32 * m → length is ≤ 32 * (1 + k + m)
index_short xs ys i is e k m p q = omega (arith, ap length e, length-append xs (ys ++ i ∷ []), length-append ys (i ∷ []), p, q)

module _ (ts : List (List ℕ)) (rs : List Reference) (line : ℕ) where
  mutual
    -- the code of a place is short
    pub place_code_short : (at : ℕ) (p : Place) (is : List Instr) → IsPlaceCode ts rs line at p is → length is ≤ 32 * place_nodes p
    place_code_short at (Variable unit number) is h = omega (arith, ap length h.2)
    place_code_short at (Own levels number) is h = omega (arith, ap length h)
    place_code_short at (Standard file) is h = omega (arith, ap length h)
    place_code_short at (Indexed p x) is h =
        index_short h.0 h.1 _ is h.4 (place_nodes p) (expr_nodes x) (place_code_short at p h.0 h.2) (expr_code_short (at + length h.0) x h.1 h.3)
    place_code_short at (Field p number) is h = omega (arith, ap length h.2, length-append h.0 (instr op.FIELD (pos number) 0 line ∷ []), place_code_short at p h.0 h.1)
    place_code_short at (Variant p selection number) is h = variant_short h.0 line (at + length h.0) selection number is h.2 (place_nodes p) (place_code_short at p h.0 h.1)

    -- so is that of an expression
    pub expr_code_short : (at : ℕ) (x : Expr) (is : List Instr) → IsExprCode ts rs line at x is → length is + 8 ≤ 32 * expr_nodes x
    expr_code_short at (Constant z) is h = omega (arith, ap length h)
    expr_code_short at (Text bytes) is h = omega (arith, ap length h.2)
    expr_code_short at (Read p) is h = omega (arith, ap length h.2, length-append h.0 (bare line op.LOAD ∷ []), place_code_short at p h.0 h.1)
    expr_code_short at (One operation x) is h = omega (arith, ap length h.2, length-append h.0 (one_code line operation), expr_code_short at x h.0 h.1, one_short line operation)
    expr_code_short at (Two operation x y) is h =
        omega (arith, ap length h.4, length-append h.0 (h.1 ++ two_code line operation ∷ []), length-append h.1 (two_code line operation ∷ []), expr_code_short at x h.0 h.2, expr_code_short (at + length h.0) y h.1 h.3)
    expr_code_short at (Short operation x y) is h =
        short_short h.0 (keep_code line operation) h.1 _ _ is h.4 (expr_nodes x) (expr_nodes y) (keep_short line operation) (expr_code_short at x h.0 h.2) (expr_code_short (at + length h.0 + length (keep_code line operation) + 2) y h.1 h.3)
    expr_code_short at (Step down low high x n) is h =
        omega (arith, ap length h.4, length-append h.0 (h.1 ++ step_code line down low high), length-append h.1 (step_code line down low high), expr_code_short at x h.0 h.2, expr_code_short (at + length h.0) n h.1 h.3, step_short line down low high)
    expr_code_short at (Function callee given) is h = call_short h.0 _ _ is h.4 (actuals_nodes given) (actuals_code_short at given h.0 h.2)
    expr_code_short at (IndexedValue x y) is h =
        omega (arith, ap length h.4, length-append h.0 (h.1 ++ bare line op.INDEX ∷ []), length-append h.1 (bare line op.INDEX ∷ []), expr_code_short at x h.0 h.2, expr_code_short (at + length h.0) y h.1 h.3)
    expr_code_short at (SetConstant ms) is h = omega (arith, ap length h, members_short line ms)
    expr_code_short at (SetOf ds) is h = omega (arith, ap length h.2, designators_code_short (at + 1) ds h.0 h.1)
    expr_code_short at (OnSets operation x y) is h =
        omega (arith, ap length h.4, length-append h.0 (h.1 ++ set_code line operation ∷ []), length-append h.1 (set_code line operation ∷ []), expr_code_short at x h.0 h.2, expr_code_short (at + length h.0) y h.1 h.3)
    expr_code_short at (Card x) is h = omega (arith, ap length h.2, length-append h.0 (bare line op.CARD ∷ []), expr_code_short at x h.0 h.1)
    expr_code_short at (FieldValue x number) is h = omega (arith, ap length h.2, length-append h.0 (instr op.FIELD (pos number) 0 line ∷ []), expr_code_short at x h.0 h.1)
    expr_code_short at (VariantValue x selection number) is h = variant_part_short h.0 line (at + length h.0) selection number is h.2 (expr_nodes x) (expr_code_short at x h.0 h.1)
    expr_code_short at (Structured number es) is h =
        omega (arith, ap length h.2, length-append h.0 (end_code line), elements_code_short (at + 4) es h.0 h.1)

    -- that of what components are given
    pub element_code_short : (at : ℕ) (e : Element) (is : List Instr) → IsElementCode ts rs line at e is → length is ≤ 32 * element_nodes e
    element_code_short at (AtIndex x y) is h =
        omega (arith, ap length h.4, length-append h.0 (bare line op.INDEX ∷ (h.1 ++ bare line op.STORE ∷ [])), length-append h.1 (bare line op.STORE ∷ []), expr_code_short (at + 1) x h.0 h.2, expr_code_short (at + 1 + length h.0 + 1) y h.1 h.3)
    element_code_short at (AtField steps x) is h =
        omega (arith, ap length h.2, length-append (reach_code line steps) (h.0 ++ bare line op.STORE ∷ []), length-append h.0 (bare line op.STORE ∷ []), steps_length line steps, expr_code_short (at + length (reach_code line steps)) x h.0 h.1)
    element_code_short at (SameField from to) is h = omega (arith, ap length h, same_length line from to)
    element_code_short at (AtRanges ranges x) is h =
        let fills : List Instr = ranges_code line (first_index ranges) ranges in
        omega (arith, ap length h.2, length-append h.0 (bare line op.STORE ∷ fills), ranges_length line (first_index ranges) ranges, expr_code_short (at + length (first_code line ranges)) x h.0 h.1)
    element_code_short at (AtIndexes ds x) is h =
        let n : ℕ = designators_count ds in
        let spreads : List Instr = spreads_code line (at + length h.0 + length h.1) n in
        omega (arith, ap length h.4, length-append h.0 (h.1 ++ (spreads ++ bare line op.DROP ∷ [])), length-append h.1 (spreads ++ bare line op.DROP ∷ []), length-append spreads (bare line op.DROP ∷ []), spreads_length line (at + length h.0 + length h.1) n, indexes_code_short at ds h.0 h.2, expr_code_short (at + length h.0) x h.1 h.3)

    -- that of the indexes of ranges, with the instructions that give a value to their components
    pub range_code_short : (at : ℕ) (d : Designator) (is : List Instr) → IsRangeCode ts rs line at d is → length is + 15 ≤ 32 * (1 + designator_nodes d)
    range_code_short at (Single x) is h = range_short h.0 (bare line op.DUP ∷ tested_code line) is h.2 (expr_nodes x) (omega (arith, expr_code_short at x h.0 h.1)) (omega arith)
    range_code_short at (Range x y) is h =
        range_short (h.0 ++ h.1) (tested_code line) is (h.4 ∙ sym (append_assoc h.0 h.1 (tested_code line))) (expr_nodes x + expr_nodes y)
        (omega (arith, length-append h.0 h.1, expr_code_short at x h.0 h.2, expr_code_short (at + length h.0) y h.1 h.3)) (omega arith)

    pub indexes_code_short : (at : ℕ) (ds : Designators) (is : List Instr) → AreIndexesCode ts rs line at ds is → length is + 15 * designators_count ds ≤ 32 * (designators_count ds + designators_nodes ds)
    indexes_code_short at no_member is h = omega (arith, ap length h)
    indexes_code_short at (next_member d more) is h =
        let others = indexes_code_short (at + length h.0) more h.1 h.3 in omega (arith, ap length h.4, length-append h.0 h.1, range_code_short at d h.0 h.2, others)

    pub elements_code_short : (at : ℕ) (es : Elements) (is : List Instr) → AreElementsCode ts rs line at es is → length is ≤ 32 * elements_nodes es
    elements_code_short at no_element is h = omega (arith, ap length h)
    elements_code_short at (next_element e more) is h = omega (arith, ap length h.4, length-append h.0 h.1, element_code_short at e h.0 h.2, elements_code_short (at + length h.0) more h.1 h.3)

    -- that of member designators
    pub designator_code_short : (at : ℕ) (d : Designator) (is : List Instr) → IsDesignatorCode ts rs line at d is → length is ≤ 32 * designator_nodes d
    designator_code_short at (Single x) is h = omega (arith, ap length h.2, length-append h.0 (bare line op.SET_ADD ∷ []), expr_code_short at x h.0 h.1)
    designator_code_short at (Range x y) is h =
        omega (arith, ap length h.4, length-append h.0 (h.1 ++ bare line op.SET_SPAN ∷ []), length-append h.1 (bare line op.SET_SPAN ∷ []), expr_code_short at x h.0 h.2, expr_code_short (at + length h.0) y h.1 h.3)

    pub designators_code_short : (at : ℕ) (ds : Designators) (is : List Instr) → AreDesignatorsCode ts rs line at ds is → length is ≤ 32 * designators_nodes ds
    designators_code_short at no_member is h = omega (arith, ap length h)
    designators_code_short at (next_member d more) is h = omega (arith, ap length h.4, length-append h.0 h.1, designator_code_short at d h.0 h.2, designators_code_short (at + length h.0) more h.1 h.3)

    -- that of an actual parameter
    pub actual_code_short : (at : ℕ) (x : Actual) (is : List Instr) → IsActualCode ts rs line at x is → length is ≤ 32 * actual_nodes x
    actual_code_short at (Evaluated x) is h = omega (arith, expr_code_short at x is h)
    actual_code_short at (Accessed p) is h = place_code_short at p is h

    -- and that of actual parameters
    pub actuals_code_short : (at : ℕ) (given : Actuals) (is : List Instr) → AreActualsCode ts rs line at given is → length is ≤ 32 * actuals_nodes given
    actuals_code_short at no_actual is h = omega (arith, ap length h)
    actuals_code_short at (next_actual x more) is h = omega (arith, ap length h.4, length-append h.0 h.1, actual_code_short at x h.0 h.2, actuals_code_short (at + length h.0) more h.1 h.3)
