-- The code of a type, from that of its parts.
use Rattle.std.proofs.Common.{◌≡◌, ◌∙◌, ℕ, ℤ, pos, suc, ◌+◌, ◌<◌, true, false, List, [], ◌∷◌, ◌++◌, length, map, take, Some, get_or, append-nil, append_assoc, refl, sym, ap, subst, rules}
use Rattle.std.specs.Bool.{◌==◌}
use Rattle.std.proofs.lemmas.List.{nil_from_length}
use Rattle.ep_gen_code.specs.Referring.{type_reference}
use Rattle.ep_gen_code.specs.Instructions.{bare, instr, members_code, push}
use Rattle.ep_gen_code.specs.Growth.{Grows}
use Rattle.ep_gen_code.specs.declared.code.Code.{Code}
use Rattle.std.proofs.lemmas.List.{map_more, take_more}
use Rattle.ep_gen_code.proofs.public.Growing.{grows_at, grows_none}
use Rattle.ep_gen_expr.specs.ExprCode.{begin_code, end_code, first_code, first_index, ranges_code, reach_code}
use Rattle.ep_gen_type.specs.TypeCode.{each_code, how_many, ordinal_code, part_code, parts_code, start_code, type_code}
use Rattle.ep_typed.specs.Trees as tree
use Rattle.ep_typed.specs.Viewed.{bound_of, components_of, denoter_step, field_of, field_step, part_step, selector_of, selector_step, variant_of, variant_part_step, variant_step, variants_of}
use Rattle.ep_typed.specs.declared.denoter.Denoter.TheFolds.{fold-roll-FieldPart, fold-roll-VariantPart}
use Rattle.ep_typed.specs.declared.denoter.FieldPart.{FieldPart, fold-FieldPart, out-FieldPart, roll-FieldPart, roll-out-FieldPart}
use Rattle.ep_typed.specs.declared.denoter.VariantPart.{VariantPart, fold-VariantPart, out-VariantPart, roll-VariantPart, roll-out-VariantPart}
use Rattle.ep_typed.specs.declared.denoter.Bound.{Bound}
use Rattle.ep_typed.specs.declared.tree.CaseRange.{CaseRange}
use Rattle.ep_object.specs.declared.op.TheConstants as op

pub grows_ordinal : {a b c d : Code} (low high : ℤ) → Grows a b (push a.line low ∷ []) → Grows b c (push b.line high ∷ []) → Grows c d (bare c.line op.T_ORD ∷ []) → Grows a d (ordinal_code a.line low high)
grows_ordinal low high p q r = grows_at (λ l. bare l op.T_ORD ∷ []) (grows_at (λ l. push l high ∷ []) p q) r

-- a list of which a test says that it is empty
empty : {X : Type 0} (xs : List X) → true ≡ (length xs == 0) → xs ≡ []
empty xs is =
    let none : length xs ≡ 0 = search rules in nil_from_length xs none

module _ (a : Code) where
  -- a name without a tuple
  pub by_name : {b : Code} (k : ℕ) (tuple : List Bound) → true ≡ (length tuple == 0) → Grows a b (instr op.CALL (pos (type_reference k)) 0 a.line ∷ []) → Grows a b (type_code a.line (tree.Named k (map bound_of tuple)))
  by_name {b = b} k tuple none grows = subst (λ bs. Grows a b (type_code a.line (tree.Named k (map bound_of bs)))) (sym (empty tuple none)) grows

  -- one with a tuple
  pub by_tuple : (k : ℕ) (tuple : List Bound) → false ≡ (length tuple == 0) → Grows a a (type_code a.line (tree.Named k (map bound_of tuple)))
  by_tuple k [] some = cc
  by_tuple k (b ∷ bs) some = grows_none a

  -- the parts of an array, and then the array
  pub by_parts : {b c d : Code} (index component : tree.Denoter) → Grows a b (type_code a.line index) → Grows b c (type_code b.line component) → Grows c d (bare c.line op.T_ARR ∷ []) → Grows a d (type_code a.line (tree.Array index component))
  by_parts index component p q r =
      grows_at (λ line. type_code line component ++ bare line op.T_ARR ∷ []) p (grows_at (λ line. bare line op.T_ARR ∷ []) q r)

  -- the base type of a set, and then the set
  pub by_base : {b c : Code} (base : tree.Denoter) → Grows a b (type_code a.line base) → Grows b c (bare b.line op.T_SET ∷ []) → Grows a c (type_code a.line (tree.Set base))
  by_base base p q = grows_at (λ line. bare line op.T_SET ∷ []) p q

  -- a type and its initial state, and then the type with it
  pub by_start : {b c d : Code} (of : tree.Denoter) (value : tree.Expr) → Grows a b (type_code a.line of) → Grows b c (start_code b.line value) → Grows c d (bare c.line op.T_INIT ∷ []) → Grows a d (type_code a.line (tree.Initial of value))
  by_start of value p q r =
      grows_at (λ line. start_code line value ++ bare line op.T_INIT ∷ []) p (grows_at (λ line. bare line op.T_INIT ∷ []) q r)

  -- the components of a record, and then the record
  pub by_components : {b c : Code} (ds : tree.Denoters) → Grows a b (each_code a.line ds) → Grows b c (instr op.T_REC (pos (how_many ds)) 0 b.line ∷ []) → Grows a c (type_code a.line (tree.Record ds))
  by_components ds p q = grows_at (λ line. instr op.T_REC (pos (how_many ds)) 0 line ∷ []) p q

  -- no component
  pub no_components : Grows a a (each_code a.line tree.no_denoter)
  no_components = grows_none a

  each_both : (ds es : List tree.Denoter) → each_code a.line (tree.denoters (ds ++ es)) ≡ each_code a.line (tree.denoters ds) ++ each_code a.line (tree.denoters es)
  each_both [] es = refl
  each_both (d ∷ ds) es =
      ap (λ l. type_code a.line d ++ l) (each_both ds es) ∙ sym (append_assoc (type_code a.line d) (each_code a.line (tree.denoters ds)) (each_code a.line (tree.denoters es)))

  -- components behind others
  pub components_both : {b c : Code} (ds es : List tree.Denoter) → Grows a b (each_code a.line (tree.denoters ds)) → Grows b c (each_code b.line (tree.denoters es))
      → Grows a c (each_code a.line (tree.denoters (ds ++ es)))
  components_both {c = c} ds es p q =
      subst (λ l. Grows a c l) (sym (each_both ds es)) (grows_at (λ line. each_code line (tree.denoters es)) p q)

  -- none behind others
  pub components_alone : {b : Code} (ds : List tree.Denoter) → Grows a b (each_code a.line (tree.denoters ds)) → Grows a b (each_code a.line (tree.denoters (ds ++ [])))
  components_alone {b = b} ds p = subst (λ l. Grows a b (each_code a.line (tree.denoters l))) (sym (append-nil ds)) p

  -- one behind others
  pub components_one : {b c : Code} (ds : List tree.Denoter) (d : tree.Denoter) → Grows a b (each_code a.line (tree.denoters ds)) → Grows b c (type_code b.line d)
      → Grows a c (each_code a.line (tree.denoters (ds ++ d ∷ [])))
  components_one {c = c} ds d p q =
      subst (λ l. Grows a c l) (sym (each_both ds (d ∷ []) ∙ ap (λ l. each_code a.line (tree.denoters ds) ++ l) (append-nil (type_code a.line d))))
      (grows_at (λ line. type_code line d) p q)

  -- others behind one
  pub components_first : {b c : Code} (d : tree.Denoter) (es : List tree.Denoter) → Grows a b (type_code a.line d) → Grows b c (each_code b.line (tree.denoters es))
      → Grows a c (each_code a.line (tree.denoters (d ∷ es)))
  components_first d es p q = grows_at (λ line. each_code line (tree.denoters es)) p q

  -- the record of one component
  pub by_one : {b c : Code} (d : tree.Denoter) → Grows a b (type_code a.line d) → Grows b c (instr op.T_REC (pos 1) 0 b.line ∷ []) → Grows a c (type_code a.line (tree.Record (tree.denoters (d ∷ []))))
  by_one {b = b} d p q =
      by_components (tree.denoters (d ∷ [])) (subst (λ l. Grows a b l) (sym (append-nil (type_code a.line d))) p) q

  -- one component more
  pub components_more : {X : Type 0} {b c : Code} (view : X → tree.Denoter) (xs : List X) (k : ℕ) (x : X) → k < length xs → x ≡ get_or xs k x
      → Grows a b (each_code a.line (tree.denoters (map view (take k xs)))) → Grows b c (type_code b.line (view x))
      → Grows a c (each_code a.line (tree.denoters (map view (take (k + 1) xs))))
  components_more {c = c} view xs k x h e p q =
      subst (λ l. Grows a c (each_code a.line (tree.denoters l))) (ap (λ y. map view (take k xs) ++ view y ∷ []) e ∙ sym (map_more view xs k x h)) (components_one (map view (take k xs)) (view x) p q)

-- how many components a record has
pub how_many-of : (ds : List tree.Denoter) → how_many (tree.denoters ds) ≡ length ds
how_many-of [] = refl
how_many-of (d ∷ ds) = ap suc (how_many-of ds)

-- what a field part gives that has a variant part
pub part_some : (part : FieldPart) (v : VariantPart) → (out-FieldPart part).variant_part ≡ Some v → components_of part ≡ map field_of (out-FieldPart part).fields ++ variants_of v
part_some part v is =
    ap (fold-FieldPart tree.Denoter tree.Denoter (List tree.Denoter) tree.Denoter tree.Denoter (List tree.Denoter) denoter_step selector_step part_step field_step variant_step variant_part_step) (sym (roll-out-FieldPart part) ∙ ap (λ o. roll-FieldPart (record { fields = (out-FieldPart part).fields; variant_part = o })) is)
    ∙ fold-roll-FieldPart tree.Denoter tree.Denoter (List tree.Denoter) tree.Denoter tree.Denoter (List tree.Denoter) denoter_step selector_step part_step field_step variant_step variant_part_step (record { fields = (out-FieldPart part).fields; variant_part = Some v })

-- and what a variant part does that a variant completes
pub variants_some : (part : VariantPart) (x : FieldPart) → (out-VariantPart part).completing ≡ Some x → variants_of part ≡ selector_of (out-VariantPart part).selector ∷ (map variant_of (out-VariantPart part).variants ++ tree.Record (tree.denoters (components_of x)) ∷ [])
variants_some part x is =
    ap (fold-VariantPart tree.Denoter tree.Denoter (List tree.Denoter) tree.Denoter tree.Denoter (List tree.Denoter) denoter_step selector_step part_step field_step variant_step variant_part_step) (sym (roll-out-VariantPart part) ∙ ap (λ o. roll-VariantPart (record { selector = (out-VariantPart part).selector; variants = (out-VariantPart part).variants; completing = o })) is)
    ∙ fold-roll-VariantPart tree.Denoter tree.Denoter (List tree.Denoter) tree.Denoter tree.Denoter (List tree.Denoter) denoter_step selector_step part_step field_step variant_step variant_part_step (record { selector = (out-VariantPart part).selector; variants = (out-VariantPart part).variants; completing = Some x })

-- ---- initial states that are sets

starts_push : (line : ℕ) (ms : List ℕ) (m : ℕ) → start_code line (tree.SetConstant (ms ++ m ∷ [])) ≡ start_code line (tree.SetConstant ms) ++ push line (pos m) ∷ bare line op.SET_ADD ∷ []
starts_push line ms m = ap (λ l. bare line op.SET_NONE ∷ l) (members_push line ms m)
  where
    members_push : (line : ℕ) (ms : List ℕ) (m : ℕ) → members_code line (ms ++ m ∷ []) ≡ members_code line ms ++ push line (pos m) ∷ bare line op.SET_ADD ∷ []
    members_push line [] m = refl
    members_push line (k ∷ ms) m = ap (λ l. push line (pos k) ∷ bare line op.SET_ADD ∷ l) (members_push line ms m)

-- one more member of a slice, for `set_start_code`
pub start_more : {a b c d : Code} (xs : List ℕ) (k : ℕ) → k < length xs → Grows a b (start_code a.line (tree.SetConstant (take k xs))) → Grows b c (push b.line (pos (get_or xs k 0)) ∷ []) → Grows c d (bare c.line op.SET_ADD ∷ [])
    → Grows a d (start_code a.line (tree.SetConstant (take (k + 1) xs)))
start_more {a = a} {d = d} xs k h p q r =
    subst (λ l. Grows a d (start_code a.line (tree.SetConstant l))) (sym (take_more xs k 0 h))
    (subst (λ l. Grows a d l) (sym (starts_push a.line (take k xs) (get_or xs k 0))) (grows_at (λ line. push line (pos (get_or xs k 0)) ∷ bare line op.SET_ADD ∷ []) p (grows_at (λ line. bare line op.SET_ADD ∷ []) q r)))

-- ---- initial states that are arrays or records

module _ (a : Code) where
  -- the components in ranges, and the value that all of them are given
  pub by_ranges : {b c d e : Code} (ranges : List CaseRange) (x : tree.Expr) → Grows a b (first_code a.line ranges) → Grows b c (start_code b.line x) → Grows c d (bare c.line op.STORE ∷ []) → Grows d e (ranges_code d.line (first_index ranges) ranges)
      → Grows a e (part_code a.line (tree.AtRanges ranges x))
  by_ranges ranges x first value store filled =
      grows_at (λ line. start_code line x ++ bare line op.STORE ∷ ranges_code line (first_index ranges) ranges) first
      (grows_at (λ line. bare line op.STORE ∷ ranges_code line (first_index ranges) ranges) value (grows_at (λ line. ranges_code line (first_index ranges) ranges) store filled))

  -- the component of a record to which steps lead, and its value
  pub by_field : {b c d : Code} (steps : List ℕ) (x : tree.Expr) → Grows a b (reach_code a.line steps) → Grows b c (start_code b.line x) → Grows c d (bare c.line op.STORE ∷ [])
      → Grows a d (part_code a.line (tree.AtField steps x))
  by_field steps x field value store =
      grows_at (λ line. start_code line x ++ bare line op.STORE ∷ []) field (grows_at (λ line. bare line op.STORE ∷ []) value store)

  -- the whole
  pub by_structure : {b c d : Code} (of : ℕ) (es : tree.Elements) → Grows a b (begin_code a.line of) → Grows b c (parts_code b.line es) → Grows c d (end_code c.line)
      → Grows a d (start_code a.line (tree.Structured of es))
  by_structure of es begun given ended =
      grows_at (λ line. parts_code line es ++ end_code line) begun (grows_at end_code given ended)

  parts_push : (es : List tree.Element) (e : tree.Element) → parts_code a.line (tree.elements (es ++ e ∷ [])) ≡ parts_code a.line (tree.elements es) ++ part_code a.line e
  parts_push [] e = append-nil (part_code a.line e)
  parts_push (f ∷ es) e = ap (λ l. part_code a.line f ++ l) (parts_push es e) ∙ sym (append_assoc (part_code a.line f) (parts_code a.line (tree.elements es)) (part_code a.line e))

  -- nothing yet
  pub no_parts : Grows a a (parts_code a.line tree.no_element)
  no_parts = grows_none a

  -- one more of a slice
  pub parts_more : {X : Type 0} {b c : Code} (view : X → tree.Element) (xs : List X) (k : ℕ) (y : X) → k < length xs → y ≡ get_or xs k y
      → Grows a b (parts_code a.line (tree.elements (map view (take k xs)))) → Grows b c (part_code b.line (view y))
      → Grows a c (parts_code a.line (tree.elements (map view (take (k + 1) xs))))
  parts_more {c = c} view xs k y h e p q =
      subst (λ l. Grows a c (parts_code a.line (tree.elements l))) (ap (λ z. map view (take k xs) ++ view z ∷ []) e ∙ sym (map_more view xs k y h))
      (subst (λ l. Grows a c l) (sym (parts_push (map view (take k xs)) (view y))) (grows_at (λ line. part_code line (view y)) p q))
