-- What the walk over expressions gives of the labels and the elements of structured values.
use Rattle.std.proofs.Common.{◌≡◌, ◌∙◌, ◌+◌, ◌<◌, ℕ, true, List, [], ◌∷◌, drop, get_or, length, map, Option, Some, None, refl, sym, ap, ap₂, subst}
use Rattle.std.specs.Option.{option_map}
use Rattle.ep_tree.specs.Shapes.{access_in, as_identifier, bare_simple, bare_term, when_empty, when_none, when_plain, when_some}
use Rattle.ep_tree.specs.declared.expression.ComponentValue.TheFolds.{fold-roll-Element, fold_out-Access, fold_out-Expression, fold_out-Factor, fold_out-Label, fold_out-Simple, fold_out-Term}
use Rattle.ep_tree.specs.declared.expression.ComponentValue.TheOpen.{Factor-F}
use Rattle.ep_tree.specs.declared.expression.ComponentValue.{ComponentValue}
use Rattle.ep_tree.specs.declared.expression.Access.{Access, out-Access}
use Rattle.ep_tree.specs.declared.expression.Addend.{Addend}
use Rattle.ep_tree.specs.declared.expression.Argument.{Argument}
use Rattle.ep_tree.specs.declared.expression.Comparison.{Comparison}
use Rattle.ep_tree.specs.declared.expression.Element.{Element}
use Rattle.ep_tree.specs.declared.expression.Element.TheVariants as element
use Rattle.std.proofs.lemmas.Option.{same_Some}
use Rattle.ep_scope.specs.declared.structure.FieldType.{FieldType}
use Rattle.ep_tree.specs.declared.expression.Expression.{Expression, map-Expression, out-Expression}
use Rattle.ep_tree.specs.declared.expression.Factor.{Factor, map-Factor, out-Factor}
use Rattle.ep_tree.specs.declared.expression.Label.{Label as LabelTree, map-Label, out-Label}
use Rattle.ep_tree.specs.declared.expression.Multiplier.{Multiplier}
use Rattle.ep_tree.specs.declared.expression.Selector.{Selector}
use Rattle.ep_tree.specs.declared.expression.Simple.{Simple, out-Simple}
use Rattle.ep_tree.specs.declared.expression.Term.{Term, out-Term}
use Rattle.ep_tree.specs.declared.expression.Values.{Values}
use Rattle.ep_tree.specs.declared.operator.Sign.{Sign}
use Rattle.ep_scope.specs.Scopes.{Region}
use Rattle.ep_scope.specs.declared.structure.ArrayType.{ArrayType}
use Rattle.ep_rules.specs.Constructors.{Label}
use Rattle.ep_tree.specs.declared.operator.AddingOperator.{AddingOperator}
use Rattle.ep_tree.specs.declared.operator.MultiplyingOperator.{MultiplyingOperator}
use Rattle.ep_tree.specs.declared.operator.RelationalOperator.{RelationalOperator}
use Rattle.ep_check_expr.specs.Expressions.{Selected, at_access, at_addend, at_argument, at_comparison, at_component_value, at_element, at_expression, at_factor, at_label, at_multiplier, at_selector, at_simple, at_term, at_values, judged, addend_judged, comparison_judged, components_written, element_written, given, judged_value, multiplier_judged, selected, expression_said, factor_said, labelled, name_said, simple_said, term_said, Said, Operand}
use Rattle.ep_rules.specs.Functions.{Given}
use Rattle.ep_rules.specs.Judgements.{Judged, Accepts, Typed, breaks, when_accepted}
use Rattle.ep_check_expr.specs.StructuredValues.{Arranged, Choice, Components, Filled, Index, IndexLabels, Labelled, One, Ranges, Valued, VariantNumbers, Written, alone_labels, array_element, asked_by, asked_first, choice, chosen_written, fields_element, fields_filled, given_by, given_then, index_judged, label_name, label_places, labelled_element, labels_judged, many_labels, named_element, range_labelled, ranges_labelled, record_element, second_index, single_label, values_chosen, with_labels, with_range}
use Rattle.ep_rules.proofs.public.Breaking.{when_accepted-part}
use Rattle.ep_check_expr.proofs.public.Rows.{left-cons}

-- ---- the name that an expression is alone

module _ (scopes : List Region) where
  name_alone : (a : Access) → (name_said scopes a).alone ≡ when_plain (out-Access a).selectors (out-Access a).name
  name_alone a = ap (λ x. x.alone) (fold_out-Access Valued Written Said Selected Said (Operand AddingOperator) Given (Operand RelationalOperator) Said Label (Operand MultiplyingOperator) Said Said Components (at_component_value scopes) (at_element scopes) (at_factor scopes) (at_selector scopes) (at_access scopes) (at_addend scopes) (at_argument scopes) (at_comparison scopes) (at_expression scopes) (at_label scopes) (at_multiplier scopes) (at_simple scopes) (at_term scopes) (at_values scopes) a) ∙ plain_map (out-Access a).selectors (out-Access a).name
    where
      plain_map : (more : List Selector) (name : List ℕ) → when_plain (map (selected scopes) more) name ≡ when_plain more name
      plain_map [] name = refl
      plain_map (s ∷ more) name = refl

  abbrev in_factor : Factor-F ComponentValue Element Factor Selector Access Addend Argument Comparison Expression LabelTree Multiplier Simple Term Values → Option (List ℕ)
  in_factor f = when_some (access_in f) (λ a. when_plain (out-Access a).selectors (out-Access a).name)

  factor_alone : (f : Factor) → (factor_said scopes f).alone ≡ in_factor (out-Factor f)
  factor_alone f = ap (λ x. x.alone) (fold_out-Factor Valued Written Said Selected Said (Operand AddingOperator) Given (Operand RelationalOperator) Said Label (Operand MultiplyingOperator) Said Said Components (at_component_value scopes) (at_element scopes) (at_factor scopes) (at_selector scopes) (at_access scopes) (at_addend scopes) (at_argument scopes) (at_comparison scopes) (at_expression scopes) (at_label scopes) (at_multiplier scopes) (at_simple scopes) (at_term scopes) (at_values scopes) f) ∙ go (out-Factor f)
    where
      go : (o : Factor-F ComponentValue Element Factor Selector Access Addend Argument Comparison Expression LabelTree Multiplier Simple Term Values) → (at_factor scopes (map-Factor ComponentValue Element Factor Selector Access Addend Argument Comparison Expression LabelTree Multiplier Simple Term Values Valued Written Said Selected Said (Operand AddingOperator) Given (Operand RelationalOperator) Said Label (Operand MultiplyingOperator) Said Said Components (judged_value scopes) (element_written scopes) (factor_said scopes) (selected scopes) (name_said scopes) (addend_judged scopes) (given scopes) (comparison_judged scopes) (expression_said scopes) (labelled scopes) (multiplier_judged scopes) (simple_said scopes) (term_said scopes) (components_written scopes) o)).alone ≡ in_factor o
      go (Factor-F.Access a) = name_alone a
      go (Factor-F.Number line n) = refl
      go (Factor-F.Text line bytes) = refl
      go (Factor-F.Nil line) = refl
      go (Factor-F.Parenthesized line e) = refl
      go (Factor-F.Not line g) = refl
      go (Factor-F.Set line labels) = refl
      go (Factor-F.Structured line name values) = refl

  term_alone : (t : Term) → (term_said scopes t).alone ≡ when_some (bare_term t) (λ f. in_factor (out-Factor f))
  term_alone t = ap (λ x. x.alone) (fold_out-Term Valued Written Said Selected Said (Operand AddingOperator) Given (Operand RelationalOperator) Said Label (Operand MultiplyingOperator) Said Said Components (at_component_value scopes) (at_element scopes) (at_factor scopes) (at_selector scopes) (at_access scopes) (at_addend scopes) (at_argument scopes) (at_comparison scopes) (at_expression scopes) (at_label scopes) (at_multiplier scopes) (at_simple scopes) (at_term scopes) (at_values scopes) t) ∙ go (out-Term t).more (out-Term t).first
    where
      go : (more : List Multiplier) (first : Factor) → when_empty (map (multiplier_judged scopes) more) (factor_said scopes first).alone ≡ when_some (when_empty more (Some first)) (λ f. in_factor (out-Factor f))
      go [] first = factor_alone first
      go (m ∷ more) first = refl

  simple_alone : (s : Simple) → (simple_said scopes s).alone ≡ when_some (bare_simple s) (λ f. in_factor (out-Factor f))
  simple_alone s = ap (λ x. x.alone) (fold_out-Simple Valued Written Said Selected Said (Operand AddingOperator) Given (Operand RelationalOperator) Said Label (Operand MultiplyingOperator) Said Said Components (at_component_value scopes) (at_element scopes) (at_factor scopes) (at_selector scopes) (at_access scopes) (at_addend scopes) (at_argument scopes) (at_comparison scopes) (at_expression scopes) (at_label scopes) (at_multiplier scopes) (at_simple scopes) (at_term scopes) (at_values scopes) s) ∙ go (out-Simple s).sign (out-Simple s).more (out-Simple s).first
    where
      go : (sign : Option Sign) (more : List Addend) (first : Term)
          → when_none sign (when_empty (map (addend_judged scopes) more) (term_said scopes first).alone) ≡ when_some (when_none sign (when_empty more (bare_term first))) (λ f. in_factor (out-Factor f))
      go None [] first = term_alone first
      go None (a ∷ more) first = refl
      go (Some o) more first = refl

  expression_alone : (e : Expression) → (expression_said scopes e).alone ≡ as_identifier e
  expression_alone e = ap (λ x. x.alone) (fold_out-Expression Valued Written Said Selected Said (Operand AddingOperator) Given (Operand RelationalOperator) Said Label (Operand MultiplyingOperator) Said Said Components (at_component_value scopes) (at_element scopes) (at_factor scopes) (at_selector scopes) (at_access scopes) (at_addend scopes) (at_argument scopes) (at_comparison scopes) (at_expression scopes) (at_label scopes) (at_multiplier scopes) (at_simple scopes) (at_term scopes) (at_values scopes) e) ∙ go (out-Expression e).line (out-Expression e).left (out-Expression e).right
    where
      go : (at : ℕ) (left : Simple) (right : Option Comparison)
          → (at_expression scopes (map-Expression ComponentValue Element Factor Selector Access Addend Argument Comparison Expression LabelTree Multiplier Simple Term Values Valued Written Said Selected Said (Operand AddingOperator) Given (Operand RelationalOperator) Said Label (Operand MultiplyingOperator) Said Said Components (judged_value scopes) (element_written scopes) (factor_said scopes) (selected scopes) (name_said scopes) (addend_judged scopes) (given scopes) (comparison_judged scopes) (expression_said scopes) (labelled scopes) (multiplier_judged scopes) (simple_said scopes) (term_said scopes) (components_written scopes) (record { line = at; left = left; right = right }))).alone ≡ when_some (when_none right (bare_simple left)) (λ f. in_factor (out-Factor f))
      go at left None = simple_alone left
      go at left (Some c) = refl

  label_alone : (l : LabelTree) → (labelled scopes l).name ≡ label_name l
  label_alone l = ap (λ x. x.name) (fold_out-Label Valued Written Said Selected Said (Operand AddingOperator) Given (Operand RelationalOperator) Said Label (Operand MultiplyingOperator) Said Said Components (at_component_value scopes) (at_element scopes) (at_factor scopes) (at_selector scopes) (at_access scopes) (at_addend scopes) (at_argument scopes) (at_comparison scopes) (at_expression scopes) (at_label scopes) (at_multiplier scopes) (at_simple scopes) (at_term scopes) (at_values scopes) l) ∙ go (out-Label l).line (out-Label l).low (out-Label l).high
    where
      go : (at : ℕ) (low : Expression) (high : Option Expression) → (at_label scopes (map-Label ComponentValue Element Factor Selector Access Addend Argument Comparison Expression LabelTree Multiplier Simple Term Values Valued Written Said Selected Said (Operand AddingOperator) Given (Operand RelationalOperator) Said Label (Operand MultiplyingOperator) Said Said Components (judged_value scopes) (element_written scopes) (factor_said scopes) (selected scopes) (name_said scopes) (addend_judged scopes) (given scopes) (comparison_judged scopes) (expression_said scopes) (labelled scopes) (multiplier_judged scopes) (simple_said scopes) (term_said scopes) (components_written scopes) (record { line = at; low = low; high = high }))).name ≡ when_none high (as_identifier low)
      go at low None = expression_alone low
      go at low (Some h) = refl

  pub names_alone : (ls : List LabelTree) → map (λ l. l.name) (map (labelled scopes) ls) ≡ map label_name ls
  names_alone [] = refl
  names_alone (l ∷ ls) = ap₂ (λ x xs. x ∷ xs) (label_alone l) (names_alone ls)

-- ---- labels of arrays

module _ (scopes : List Region) (a : ArrayType) where
  label_low : (l : LabelTree) → (labelled scopes l).low ≡ judged scopes (out-Label l).low
  label_low l = ap (λ x. x.low) (fold_out-Label Valued Written Said Selected Said (Operand AddingOperator) Given (Operand RelationalOperator) Said Label (Operand MultiplyingOperator) Said Said Components (at_component_value scopes) (at_element scopes) (at_factor scopes) (at_selector scopes) (at_access scopes) (at_addend scopes) (at_argument scopes) (at_comparison scopes) (at_expression scopes) (at_label scopes) (at_multiplier scopes) (at_simple scopes) (at_term scopes) (at_values scopes) l)

  label_high : (l : LabelTree) → (labelled scopes l).high ≡ option_map (judged scopes) (out-Label l).high
  label_high l = ap (λ x. x.high) (fold_out-Label Valued Written Said Selected Said (Operand AddingOperator) Given (Operand RelationalOperator) Said Label (Operand MultiplyingOperator) Said Said Components (at_component_value scopes) (at_element scopes) (at_factor scopes) (at_selector scopes) (at_access scopes) (at_addend scopes) (at_argument scopes) (at_comparison scopes) (at_expression scopes) (at_label scopes) (at_multiplier scopes) (at_simple scopes) (at_term scopes) (at_values scopes) l) ∙ go (out-Label l).line (out-Label l).low (out-Label l).high
    where
      go : (at : ℕ) (low : Expression) (high : Option Expression) → (at_label scopes (map-Label ComponentValue Element Factor Selector Access Addend Argument Comparison Expression LabelTree Multiplier Simple Term Values Valued Written Said Selected Said (Operand AddingOperator) Given (Operand RelationalOperator) Said Label (Operand MultiplyingOperator) Said Said Components (judged_value scopes) (element_written scopes) (factor_said scopes) (selected scopes) (name_said scopes) (addend_judged scopes) (given scopes) (comparison_judged scopes) (expression_said scopes) (labelled scopes) (multiplier_judged scopes) (simple_said scopes) (term_said scopes) (components_written scopes) (record { line = at; low = low; high = high }))).high ≡ option_map (judged scopes) high
      go at low None = refl
      go at low (Some h) = refl

  -- a rule that fails in the first index of a label, and in the second one
  pub low_fails : (l : LabelTree) (n : ℕ) (r : Ranges) → breaks n (when_accepted (index_judged a) (judged scopes (out-Label l).low)) ≡ true → breaks n (range_labelled a (labelled scopes l) r) ≡ true
  low_fails l n r h =
      when_accepted-part n (λ x. second_index a r x (labelled scopes l).high) (when_accepted (index_judged a) (labelled scopes l).low) (subst (λ J. breaks n (when_accepted (index_judged a) J) ≡ true) (sym (label_low l)) h)

  pub high_fails : (l : LabelTree) (x : Index) (high : Expression) → when_accepted (index_judged a) (judged scopes (out-Label l).low) ≡ Accepts x → (out-Label l).high ≡ Some high → (n : ℕ) (r : Ranges)
      → breaks n (when_accepted (index_judged a) (judged scopes high)) ≡ true → breaks n (range_labelled a (labelled scopes l) r) ≡ true
  high_fails l x high first second n r h =
      subst (λ J. breaks n (when_accepted (λ y. second_index a r y (labelled scopes l).high) (when_accepted (index_judged a) J)) ≡ true) (sym (label_low l))
      (subst (λ J. breaks n (when_accepted (λ y. second_index a r y (labelled scopes l).high) J) ≡ true) (sym first)
      (subst (λ o. breaks n (second_index a r x o) ≡ true) (sym (label_high l ∙ ap (option_map (judged scopes)) second))
      (when_accepted-part n (λ y. Accepts (with_range r x y)) (when_accepted (index_judged a) (judged scopes high)) h)))

  -- labels that are one index alone, and others
  pub one_label : (ls : List LabelTree) (low : Expression) → single_label ls ≡ Some low → labels_judged a (map (labelled scopes) ls) ≡ when_accepted (λ x. Accepts (One x)) (when_accepted (index_judged a) (judged scopes low))
  one_label [] low e = cc
  one_label (l ∷ []) low e = go (out-Label l).high refl e
    where
      go : (o : Option Expression) → (out-Label l).high ≡ o → when_none o (Some (out-Label l).low) ≡ Some low → labels_judged a (labelled scopes l ∷ []) ≡ when_accepted (λ x. Accepts (One x)) (when_accepted (index_judged a) (judged scopes low))
      go None none same =
          ap (alone_labels a (labelled scopes l)) (label_high l ∙ ap (option_map (judged scopes)) none)
          ∙ ap (λ J. when_accepted (λ x. Accepts (One x)) (when_accepted (index_judged a) J)) (label_low l ∙ ap (judged scopes) (same_Some (out-Label l).low low same))
      go (Some h) some same = cc
  one_label (l ∷ k ∷ ls) low e = cc

  pub more_labels : (ls : List LabelTree) → single_label ls ≡ None → labels_judged a (map (labelled scopes) ls) ≡ many_labels a (map (labelled scopes) ls)
  more_labels [] e = refl
  more_labels (l ∷ []) e = go (out-Label l).high refl e
    where
      go : (o : Option Expression) → (out-Label l).high ≡ o → when_none o (Some (out-Label l).low) ≡ None → labels_judged a (labelled scopes l ∷ []) ≡ many_labels a (labelled scopes l ∷ [])
      go None none same = cc
      go (Some h) some same = ap (alone_labels a (labelled scopes l)) (label_high l ∙ ap (option_map (judged scopes)) some)
  more_labels (l ∷ k ∷ ls) e = refl

-- ---- an element by its parts

module _ (scopes : List Region) where
  element_is : (e : Element) (line : ℕ) (labels : List LabelTree) (value : ComponentValue) → e ≡ element.Labelled line labels value → element_written scopes e ≡ Labelled (map (labelled scopes) labels) (judged_value scopes value)
  element_is e line labels value is = ap (element_written scopes) (is ∙ sym (element.rolls-Labelled line labels value)) ∙ simp fold-roll-Element

  module _ (a : ArrayType) (e : Element) (line : ℕ) (labels : List LabelTree) (value : ComponentValue) (is : e ≡ element.Labelled line labels value) (r : Arranged) where
    array_parts : array_element a (element_written scopes e) r ≡ labelled_element a (map (labelled scopes) labels) (judged_value scopes value) r
    array_parts = ap (λ w. array_element a w r) (element_is e line labels value is)

    pub labels_fail : (n : ℕ) → breaks n (labels_judged a (map (labelled scopes) labels)) ≡ true → breaks n (array_element a (element_written scopes e) r) ≡ true
    labels_fail n h =
        subst (λ J. breaks n J ≡ true) (sym array_parts) (when_accepted-part n (λ x. given_then a (with_labels r x) (judged_value scopes value)) (labels_judged a (map (labelled scopes) labels)) h)

    module _ (x : IndexLabels) (accepted : labels_judged a (map (labelled scopes) labels) ≡ Accepts x) where
      array_then : array_element a (element_written scopes e) r ≡ when_accepted (given_by a (with_labels r x)) (judged_value scopes value (asked_by a.kind))
      array_then = array_parts ∙ ap (when_accepted (λ y. given_then a (with_labels r y) (judged_value scopes value))) accepted

      pub component_fails : (n : ℕ) → breaks n (judged_value scopes value (asked_by a.kind)) ≡ true → breaks n (array_element a (element_written scopes e) r) ≡ true
      component_fails n h = subst (λ J. breaks n J ≡ true) (sym array_then) (when_accepted-part n (given_by a (with_labels r x)) (judged_value scopes value (asked_by a.kind)) h)

      pub component_given_is : (v : Typed) → judged_value scopes value (asked_by a.kind) ≡ Accepts v → array_element a (element_written scopes e) r ≡ given_by a (with_labels r x) v
      component_given_is v known = array_then ∙ ap (when_accepted (given_by a (with_labels r x))) known

  module _ (fs : List FieldType) (within : VariantNumbers) (e : Element) (line : ℕ) (labels : List LabelTree) (value : ComponentValue) (is : e ≡ element.Labelled line labels value) (r : Filled) where
    record_parts : record_element fs within (element_written scopes e) r ≡ named_element fs within (map label_name labels) (judged_value scopes value) r
    record_parts = ap (λ w. record_element fs within w r) (element_is e line labels value is) ∙ ap (λ names. named_element fs within names (judged_value scopes value) r) (names_alone scopes labels)

    pub names_fail : (n : ℕ) → breaks n (label_places fs within (map label_name labels) []) ≡ true → breaks n (record_element fs within (element_written scopes e) r) ≡ true
    names_fail n h =
        subst (λ J. breaks n J ≡ true) (sym record_parts) (when_accepted-part n (fields_element fs (judged_value scopes value) r) (label_places fs within (map label_name labels) []) h)

    module _ (places : List ℕ) (accepted : label_places fs within (map label_name labels) [] ≡ Accepts places) where
      record_then : record_element fs within (element_written scopes e) r ≡ when_accepted (fields_filled fs places r) (judged_value scopes value (asked_first fs places))
      record_then = record_parts ∙ ap (when_accepted (fields_element fs (judged_value scopes value) r)) accepted

      pub field_fails : (n : ℕ) → breaks n (judged_value scopes value (asked_first fs places)) ≡ true → breaks n (record_element fs within (element_written scopes e) r) ≡ true
      field_fails n h = subst (λ J. breaks n J ≡ true) (sym record_then) (when_accepted-part n (fields_filled fs places r) (judged_value scopes value (asked_first fs places)) h)

      pub field_given_is : (v : Typed) → judged_value scopes value (asked_first fs places) ≡ Accepts v → record_element fs within (element_written scopes e) r ≡ fields_filled fs places r v
      field_given_is v known = record_then ∙ ap (when_accepted (fields_filled fs places r)) known

-- ---- the choice of a variant by its parts

-- empty brackets are like those with no element
chosen_element : (fs : List FieldType) (within : VariantNumbers) (name : Option (List ℕ)) (tag : Judged Typed) (values : Option Components) (r : Filled)
    → record_element fs within (chosen_written name tag values) r ≡ when_accepted (λ c. values_chosen fs values c) (when_accepted (choice fs within name r) tag)
chosen_element fs within name tag None r = refl
chosen_element fs within name tag (Some values) r = refl

module _ (scopes : List Region) where
  chosen_is : (e : Element) (line : ℕ) (name : Option (List ℕ)) (tag : Expression) (values : Option Values) → e ≡ element.Variant line name tag values
      → element_written scopes e ≡ chosen_written name (judged scopes tag) (option_map (components_written scopes) values)
  chosen_is e line name tag None is = ap (element_written scopes) (is ∙ sym (element.rolls-Variant line name tag None)) ∙ simp fold-roll-Element
  chosen_is e line name tag (Some values) is = ap (element_written scopes) (is ∙ sym (element.rolls-Variant line name tag (Some values))) ∙ simp fold-roll-Element

  module _ (fs : List FieldType) (within : VariantNumbers) (e : Element) (line : ℕ) (name : Option (List ℕ)) (tag : Expression) (values : Option Values) (is : e ≡ element.Variant line name tag values) (r : Filled) where
    chosen_parts : record_element fs within (element_written scopes e) r ≡ when_accepted (λ c. values_chosen fs (option_map (components_written scopes) values) c) (when_accepted (choice fs within name r) (judged scopes tag))
    chosen_parts = ap (λ w. record_element fs within w r) (chosen_is e line name tag values is) ∙ chosen_element fs within name (judged scopes tag) (option_map (components_written scopes) values) r

    pub tag_fails : (n : ℕ) → breaks n (judged scopes tag) ≡ true → breaks n (record_element fs within (element_written scopes e) r) ≡ true
    tag_fails n h =
        subst (λ J. breaks n J ≡ true) (sym chosen_parts)
        (when_accepted-part n (λ c. values_chosen fs (option_map (components_written scopes) values) c) (when_accepted (choice fs within name r) (judged scopes tag)) (when_accepted-part n (choice fs within name r) (judged scopes tag) h))

    module _ (v : Typed) (known : judged scopes tag ≡ Accepts v) where
      chosen_then : record_element fs within (element_written scopes e) r ≡ when_accepted (λ c. values_chosen fs (option_map (components_written scopes) values) c) (choice fs within name r v)
      chosen_then = chosen_parts ∙ ap (λ J. when_accepted (λ c. values_chosen fs (option_map (components_written scopes) values) c) (when_accepted (choice fs within name r) J)) known

      pub choice_fails : (n : ℕ) → breaks n (choice fs within name r v) ≡ true → breaks n (record_element fs within (element_written scopes e) r) ≡ true
      choice_fails n h = subst (λ J. breaks n J ≡ true) (sym chosen_then) (when_accepted-part n (λ c. values_chosen fs (option_map (components_written scopes) values) c) (choice fs within name r v) h)

      pub chosen_given_is : (c : Choice) → choice fs within name r v ≡ Accepts c → record_element fs within (element_written scopes e) r ≡ values_chosen fs (option_map (components_written scopes) values) c
      chosen_given_is c accepted = chosen_then ∙ ap (when_accepted (λ d. values_chosen fs (option_map (components_written scopes) values) d)) accepted

-- ---- ranges that are read one after another

module _ (a : ArrayType) {X : Type 0} (view : X → Label) (all : List X) (i : ℕ) (x : X) (within : i < length all) (is : x ≡ get_or all i x) where
  next_range : (r : Ranges) → ranges_labelled a (map view (drop i all)) r ≡ when_accepted (ranges_labelled a (map view (drop (i + 1) all))) (range_labelled a (view x) r)
  next_range r = ap (λ xs. ranges_labelled a (map view xs) r) (left-cons all i x within is)

  -- one that is accepted
  pub ranges-turned : (before now : Ranges) → range_labelled a (view x) before ≡ Accepts now → ranges_labelled a (map view (drop (i + 1) all)) now ≡ ranges_labelled a (map view (drop i all)) before
  ranges-turned before now e = sym (next_range before ∙ ap (when_accepted (ranges_labelled a (map view (drop (i + 1) all)))) e)

  -- one that fails
  pub ranges-fail : (n : ℕ) (before : Ranges) → breaks n (range_labelled a (view x) before) ≡ true → breaks n (ranges_labelled a (map view (drop i all)) before) ≡ true
  ranges-fail n before h = rw (next_range before) (when_accepted-part n (ranges_labelled a (map view (drop (i + 1) all))) (range_labelled a (view x) before) h)
