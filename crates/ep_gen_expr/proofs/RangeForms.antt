-- The code of tests of ranges and of labels, from that of its parts.
use Rattle.std.proofs.Common.{◌≡◌, ℕ, pos, suc, ◌+◌, ◌*◌, ◌<◌, List, [], ◌∷◌, ◌++◌, take, length, get_or, sym, ap, ◌∙◌, subst, append_assoc, append-nil, arith}
use Rattle.std.specs.Prelude.{if◌then◌else◌}
use Rattle.std.proofs.lemmas.List.{take_more, length-take-le}
use Rattle.ep_meaning.specs.Steps.{is_number}
use Rattle.ep_typed.specs.Selections.{variant_number}
use Rattle.ep_values.specs.declared.run_error.TheConstants as run_error
use Rattle.ep_typed.specs.declared.tree.CaseRange.{CaseRange}
use Rattle.ep_typed.specs.declared.tree.Selection.{Selection}
use Rattle.ep_gen_code.specs.Instructions.{bare, push, instr}
use Rattle.ep_gen_expr.specs.ExprCode.{test_code, tests_code, bad_place, labels_code, labels_count, tag_code, tag_part_code, rest_code, ends_code, selecting_code, variant_code, variant_part_code}
use Rattle.ep_gen_code.specs.Growth.{Grows}
use Rattle.ep_gen_code.specs.Jumps.{IsNextPlace}
use Rattle.ep_gen_code.specs.declared.code.Code.{Code}
use Rattle.ep_gen_code.proofs.public.Growing.{grows_at}
use Rattle.ep_gen_code.proofs.public.Landing.{grows_length}
use Rattle.ep_gen_expr.proofs.public.Stays.{tests_length, labels_length}
use Rattle.ep_object.specs.declared.op.TheConstants as op

-- ---- the tests of ranges

-- the test of one range
pub appends_test : {a b c d e f g : Code} (body n : ℕ) (r : CaseRange) → IsNextPlace a n → Grows a b (bare a.line op.DUP ∷ []) → Grows b c (push b.line r.low ∷ []) → Grows c d (push c.line r.high ∷ []) → Grows d e (bare d.line op.BETWEEN ∷ []) → Grows e f (instr op.JUMP_FALSE (pos (n + 6)) 0 e.line ∷ [])
    → Grows f g (instr op.JUMP (pos body) 0 f.line ∷ []) → Grows a g (test_code a.line body (length a.instructions) r)
appends_test {a = a} {g = g} body n r start p q s t u v =
    subst (λ k. Grows a g (test_code a.line body k r)) start.is_length
    (grows_at (λ line. instr op.JUMP (pos body) 0 line ∷ []) (grows_at (λ line. instr op.JUMP_FALSE (pos (n + 6)) 0 line ∷ []) (grows_at (λ line. bare line op.BETWEEN ∷ []) (grows_at (λ line. push line r.high ∷ []) (grows_at (λ line. push line r.low ∷ []) p q) s) t) u) v)

tests_snoc : (line body at : ℕ) (rs : List CaseRange) (r : CaseRange) → tests_code line body at (rs ++ r ∷ []) ≡ tests_code line body at rs ++ test_code line body (at + 6 * length rs) r
tests_snoc line body at [] r =
    let here : at ≡ at + 6 * 0 = omega arith in
    append-nil (test_code line body at r) ∙ ap (λ k. test_code line body k r) here
tests_snoc line body at (x ∷ rs) r =
    let there : at + 6 + 6 * length rs ≡ at + 6 * length (x ∷ rs) = omega arith in
    ap (λ l. test_code line body at x ++ l) (tests_snoc line body (at + 6) rs r ∙ ap (λ k. tests_code line body (at + 6) rs ++ test_code line body k r) there)
    ∙ sym (append_assoc (test_code line body at x) (tests_code line body (at + 6) rs) (test_code line body (at + 6 * length (x ∷ rs)) r))

-- the test of one more range of a slice
pub tests_more : {b c : Code} (a : Code) (body at : ℕ) (rs : List CaseRange) (k : ℕ) (r : CaseRange) → at ≡ length a.instructions → k < length rs → r ≡ get_or rs k r → Grows a b (tests_code a.line body at (take k rs)) → Grows b c (test_code b.line body (length b.instructions) r) → Grows a c (tests_code a.line body at (take (k + 1) rs))
tests_more {b = b} {c = c} a body at rs k r start h e p q =
    let long : length (take k rs) ≡ k = length-take-le k rs (omega (arith, h)) in
    let place : length b.instructions ≡ at + 6 * length (take k rs) = omega (arith, start, grows_length p, tests_length a.line body at (take k rs)) in
    let both : Grows a c (tests_code a.line body at (take k rs) ++ test_code a.line body (length b.instructions) r) = grows_at (λ line. test_code line body (length b.instructions) r) p q in
    subst (λ l. Grows a c l)
    (ap (λ n. tests_code a.line body at (take k rs) ++ test_code a.line body n r) place ∙ sym (tests_snoc a.line body at (take k rs) r) ∙ ap (λ x. tests_code a.line body at (take k rs ++ x ∷ [])) e ∙ ap (tests_code a.line body at) (sym (take_more rs k r h)))
    both

-- ---- the tests of labels

labels_snoc : (line good bad number k at : ℕ) (labels : List (List CaseRange)) (ranges : List CaseRange)
    → labels_code line good bad number k at (labels ++ ranges ∷ []) ≡ labels_code line good bad number k at labels ++ tests_code line (if is_number (k + length labels) number then good else bad) (at + 6 * labels_count labels) ranges
labels_snoc line good bad number k at [] ranges =
    let here : at ≡ at + 6 * 0 = omega arith in
    let same : k ≡ k + 0 = omega arith in
    append-nil (tests_code line (if is_number k number then good else bad) at ranges)
    ∙ (ap (λ n. tests_code line (if is_number k number then good else bad) n ranges) here ∙ ap (λ j. tests_code line (if is_number j number then good else bad) (at + 6 * 0) ranges) same)
labels_snoc line good bad number k at (x ∷ labels) ranges =
    let front = tests_code line (if is_number k number then good else bad) at x in
    let there : at + 6 * length x + 6 * labels_count labels ≡ at + 6 * labels_count (x ∷ labels) = omega arith in
    let same : suc k + length labels ≡ k + length (x ∷ labels) = omega arith in
    ap (λ l. front ++ l)
    (labels_snoc line good bad number (suc k) (at + 6 * length x) labels ranges
    ∙ (ap (λ n. labels_code line good bad number (suc k) (at + 6 * length x) labels ++ tests_code line (if is_number (suc k + length labels) number then good else bad) n ranges) there
    ∙ ap (λ j. labels_code line good bad number (suc k) (at + 6 * length x) labels ++ tests_code line (if is_number j number then good else bad) (at + 6 * labels_count (x ∷ labels)) ranges) same))
    ∙ sym (append_assoc front (labels_code line good bad number (suc k) (at + 6 * length x) labels) (tests_code line (if is_number (k + length (x ∷ labels)) number then good else bad) (at + 6 * labels_count (x ∷ labels)) ranges))

-- the labels of one more variant of a slice
pub labels_more : {b c : Code} (a : Code) (good bad number body at : ℕ) (labels : List (List CaseRange)) (k : ℕ) (ranges : List CaseRange) → at ≡ length a.instructions → k < length labels → ranges ≡ get_or labels k ranges → body ≡ (if is_number k number then good else bad)
    → Grows a b (labels_code a.line good bad number 0 at (take k labels)) → Grows b c (tests_code b.line body (length b.instructions) ranges) → Grows a c (labels_code a.line good bad number 0 at (take (k + 1) labels))
labels_more {b = b} {c = c} a good bad number body at labels k ranges start h e chosen p q =
    let before = labels_code a.line good bad number 0 at (take k labels) in
    let long : length (take k labels) ≡ k = length-take-le k labels (omega (arith, h)) in
    let behind : k ≡ 0 + length (take k labels) = omega (arith, long) in
    let place : length b.instructions ≡ at + 6 * labels_count (take k labels) = omega (arith, start, grows_length p, labels_length a.line good bad number 0 at (take k labels)) in
    let both : Grows a c (before ++ tests_code a.line body (length b.instructions) ranges) = grows_at (λ line. tests_code line body (length b.instructions) ranges) p q in
    subst (λ l. Grows a c l)
    (ap (λ n. before ++ tests_code a.line body n ranges) place
    ∙ (ap (λ n. before ++ tests_code a.line n (at + 6 * labels_count (take k labels)) ranges) (chosen ∙ ap (λ j. if is_number j number then good else bad) behind)
    ∙ (sym (labels_snoc a.line good bad number 0 at (take k labels) ranges) ∙ (ap (λ x. labels_code a.line good bad number 0 at (take k labels ++ x ∷ [])) e ∙ ap (labels_code a.line good bad number 0 at) (sym (take_more labels k ranges h))))))
    both

-- ---- a variant

-- what takes the value of the tag
pub grows_tag : {a b c d e f g h : Code} (bad tag : ℕ) → Grows a b (bare a.line op.DUP ∷ []) → Grows b c (instr op.FIELD (pos tag) 0 b.line ∷ []) → Grows c d (instr op.FIELD (pos 0) 0 c.line ∷ []) → Grows d e (bare d.line op.DUP ∷ []) → Grows e f (bare e.line op.DEFINED ∷ [])
    → Grows f g (instr op.JUMP_FALSE (pos bad) 0 f.line ∷ []) → Grows g h (bare g.line op.LOAD ∷ []) → Grows a h (tag_code a.line bad tag)
grows_tag bad tag p q r s t u v =
    grows_at (λ line. bare line op.LOAD ∷ []) (grows_at (λ line. instr op.JUMP_FALSE (pos bad) 0 line ∷ []) (grows_at (λ line. bare line op.DEFINED ∷ []) (grows_at (λ line. bare line op.DUP ∷ []) (grows_at (λ line. instr op.FIELD (pos 0) 0 line ∷ []) (grows_at (λ line. instr op.FIELD (pos tag) 0 line ∷ []) p q) r) s) t) u) v

-- what takes the one of a value
pub grows_tag_part : {a b c d e f g : Code} (bad tag : ℕ) → Grows a b (bare a.line op.DUP ∷ []) → Grows b c (instr op.FIELD (pos tag) 0 b.line ∷ []) → Grows c d (bare c.line op.DUP ∷ []) → Grows d e (bare d.line op.DEFINED ∷ [])
    → Grows e f (instr op.JUMP_FALSE (pos bad) 0 e.line ∷ []) → Grows f g (instr op.FIELD (pos 0) 0 f.line ∷ []) → Grows a g (tag_part_code a.line bad tag)
grows_tag_part bad tag p q r s t u =
    grows_at (λ line. instr op.FIELD (pos 0) 0 line ∷ []) (grows_at (λ line. instr op.JUMP_FALSE (pos bad) 0 line ∷ []) (grows_at (λ line. bare line op.DEFINED ∷ []) (grows_at (λ line. bare line op.DUP ∷ []) (grows_at (λ line. instr op.FIELD (pos tag) 0 line ∷ []) p q) r) s) t) u

-- what is done with it, of which these are the parts
pub grows_selecting : {b c d e f g : Code} (s : Selection) (number bad : ℕ) → bad ≡ bad_place (length b.instructions) s
    → Grows b c (labels_code b.line (bad + 1) bad number 0 (length b.instructions) s.labels) → Grows c d (rest_code c.line (bad + 1) bad s number ∷ []) → Grows d e (instr op.FAIL (pos run_error.INACTIVE_VARIANT) 0 d.line ∷ []) → Grows e f (bare e.line op.DROP ∷ [])
    → Grows f g (instr op.FIELD (pos (variant_number s number)) 0 f.line ∷ []) → Grows b g (selecting_code b.line (length b.instructions) s number)
grows_selecting {b = b} {c = c} {g = g} s number bad is q r t u v =
    let ends : Grows c g (rest_code c.line (bad + 1) bad s number ∷ ends_code c.line s number) =
    grows_at (λ line. instr op.FIELD (pos (variant_number s number)) 0 line ∷ []) (grows_at (λ line. bare line op.DROP ∷ []) (grows_at (λ line. instr op.FAIL (pos run_error.INACTIVE_VARIANT) 0 line ∷ []) r t) u) v
    in
    let all : Grows b g (labels_code b.line (bad + 1) bad number 0 (length b.instructions) s.labels ++ rest_code b.line (bad + 1) bad s number ∷ ends_code b.line s number) = grows_at (λ line. rest_code line (bad + 1) bad s number ∷ ends_code line s number) q ends in
    subst (λ n. Grows b g (labels_code b.line (n + 1) n number 0 (length b.instructions) s.labels ++ rest_code b.line (n + 1) n s number ∷ ends_code b.line s number)) is all

-- the whole, of a variable and of a value
pub grows_variant : {a b g : Code} (s : Selection) (number bad : ℕ) → bad ≡ bad_place (length a.instructions + 7) s
    → Grows a b (tag_code a.line bad s.tag) → Grows b g (selecting_code b.line (length b.instructions) s number) → Grows a g (variant_code a.line (length a.instructions) s number)
grows_variant {a = a} {b = b} {g = g} s number bad is p q =
    let at_labels : length b.instructions ≡ length a.instructions + 7 = grows_length p in
    let all : Grows a g (tag_code a.line bad s.tag ++ selecting_code a.line (length b.instructions) s number) = grows_at (λ line. selecting_code line (length b.instructions) s number) p q in
    subst (λ n. Grows a g (tag_code a.line n s.tag ++ selecting_code a.line (length a.instructions + 7) s number)) is (subst (λ n. Grows a g (tag_code a.line bad s.tag ++ selecting_code a.line n s number)) at_labels all)

pub grows_variant_part : {a b g : Code} (s : Selection) (number bad : ℕ) → bad ≡ bad_place (length a.instructions + 6) s
    → Grows a b (tag_part_code a.line bad s.tag) → Grows b g (selecting_code b.line (length b.instructions) s number) → Grows a g (variant_part_code a.line (length a.instructions) s number)
grows_variant_part {a = a} {b = b} {g = g} s number bad is p q =
    let at_labels : length b.instructions ≡ length a.instructions + 6 = grows_length p in
    let all : Grows a g (tag_part_code a.line bad s.tag ++ selecting_code a.line (length b.instructions) s number) = grows_at (λ line. selecting_code line (length b.instructions) s number) p q in
    subst (λ n. Grows a g (tag_part_code a.line n s.tag ++ selecting_code a.line (length a.instructions + 6) s number)) is (subst (λ n. Grows a g (tag_part_code a.line bad s.tag ++ selecting_code a.line n s number)) at_labels all)
