-- What the rules say of the nodes of expressions by their parts: an equation for each node.
use Rattle.std.proofs.Common.{◌≡◌, ℕ, ℤ, List, [], ◌∷◌, map, Option, Some, None, refl, sym, ap, ◌∙◌}
use Rattle.ep_scope.specs.Scopes.{Region}
use Rattle.ep_tree.specs.Nodes.{expression_node, comparison_node, simple_node, addend_node, term_node, multiplier_node, access_node, argument_node, label_node}
use Rattle.ep_tree.specs.declared.expression.ComponentValue.TheFolds.{fold-roll-Values, fold-roll-Factor, fold-roll-Selector, fold-roll-Access, fold-roll-Addend, fold-roll-Argument, fold-roll-Comparison, fold-roll-Expression, fold-roll-Label, fold-roll-Multiplier, fold-roll-Simple, fold-roll-Term}
use Rattle.ep_tree.specs.declared.expression.Access.{Access}
use Rattle.ep_tree.specs.declared.expression.Addend.{Addend}
use Rattle.ep_tree.specs.declared.expression.Argument.{Argument, out-Argument, roll-out-Argument}
use Rattle.ep_tree.specs.declared.expression.Comparison.{Comparison}
use Rattle.ep_tree.specs.declared.expression.Expression.{Expression}
use Rattle.ep_tree.specs.Shapes.{when_empty, when_none, when_plain}
use Rattle.ep_tree.specs.declared.expression.ComponentValue.TheOpen.{Factor-F, Selector-F, Values-F}
use Rattle.ep_tree.specs.declared.expression.ComponentValue.{ComponentValue}
use Rattle.ep_tree.specs.declared.expression.Element.{Element}
use Rattle.ep_tree.specs.declared.expression.Label.{Label as LabelTree}
use Rattle.ep_tree.specs.declared.expression.Values.{Values, map-Values, roll-Values}
use Rattle.ep_tree.specs.declared.expression.Factor.{Factor, map-Factor, roll-Factor}
use Rattle.ep_tree.specs.declared.expression.Factor.TheVariants as factor
use Rattle.ep_tree.specs.declared.expression.Multiplier.{Multiplier}
use Rattle.ep_tree.specs.declared.expression.Selector.{Selector, roll-Selector}
use Rattle.ep_tree.specs.declared.expression.Selector.TheVariants as selector
use Rattle.ep_tree.specs.declared.expression.Simple.{Simple}
use Rattle.ep_tree.specs.declared.expression.Term.{Term}
use Rattle.ep_tree.specs.declared.operator.AddingOperator.{AddingOperator}
use Rattle.ep_tree.specs.declared.operator.MultiplyingOperator.{MultiplyingOperator}
use Rattle.ep_tree.specs.declared.operator.RelationalOperator.{RelationalOperator}
use Rattle.ep_tree.specs.declared.operator.Sign.{Sign}
use Rattle.ep_scope.specs.declared.kind.Host.TheVariants as host
use Rattle.ep_check_expr.specs.Expressions.{Arguments, Field, Indexes, Selected, at_access, at_addend, at_argument, at_comparison, at_component_value, at_element, at_expression, at_factor, at_label, at_multiplier, at_selector, at_simple, at_term, at_values, components_written, element_written, judged_value, factor_said, name_said, simple_said, term_said, chained, string_judged, access_judged, expression_said, judged, simple_judged, term_judged, factor_judged, addend_judged, multiplier_judged, comparison_judged, labelled, name_judged, selected, given, Said, Operand}
use Rattle.ep_rules.specs.Names.{spelled, parenthesized}
use Rattle.ep_rules.specs.Constructors.{Label}
use Rattle.ep_rules.specs.Functions.{Given}
use Rattle.ep_check_expr.specs.StructuredValues.{Components, Valued, Written}
use Rattle.ep_rules.specs.Judgements.{Judged, Accepts, Breaks, Typed, both, when_accepted}
use Rattle.ep_rules.specs.Operators.{signed, added, multiplied, compared}

-- an access by itself
abbrev pub access_expression : Access → Expression
access_expression a = expression_node 1 (simple_node 1 None (term_node 1 (factor.Access a) []) []) None

-- without a sign
pub unsigned : (J : Judged Typed) → when_accepted (signed None) J ≡ J
unsigned (Accepts x) = refl
unsigned (Breaks rules) = refl

-- what the rules say of each of them
judged-all : (scopes : List Region) (more : List Expression) → map (λ x. x.judged) (map (expression_said scopes) more) ≡ map (judged scopes) more
judged-all scopes [] = refl
judged-all scopes (e ∷ more) = ap (λ xs. judged scopes e ∷ xs) (judged-all scopes more)

module _ (scopes : List Region) where
  pub expression-judged : (at : ℕ) (l : Simple) → judged scopes (expression_node at l None) ≡ simple_judged scopes l
  expression-judged at l = ap (λ x. x.judged) said
    where
      said : expression_said scopes (expression_node at l None) ≡ record { judged = simple_judged scopes l; alone = (simple_said scopes l).alone }
      said = simp fold-roll-Expression

  pub comparison-judged : (at : ℕ) (l r : Simple) (o : RelationalOperator) → judged scopes (expression_node at l (Some (comparison_node o r))) ≡ both (compared o) (simple_judged scopes l) (simple_judged scopes r)
  comparison-judged at l r o = ap (λ x. x.judged) said
    where
      said : expression_said scopes (expression_node at l (Some (comparison_node o r))) ≡ record { judged = both (compared o) (simple_judged scopes l) (simple_judged scopes r); alone = None }
      said = simp (fold-roll-Expression, fold-roll-Comparison)

  pub compared-judged : (at : ℕ) (l : Simple) (c : Comparison) → judged scopes (expression_node at l (Some c)) ≡ both (compared (comparison_judged scopes c).operator) (simple_judged scopes l) (comparison_judged scopes c).operand
  compared-judged at l c = ap (λ x. x.judged) said
    where
      said : expression_said scopes (expression_node at l (Some c)) ≡ record { judged = both (compared (comparison_judged scopes c).operator) (simple_judged scopes l) (comparison_judged scopes c).operand; alone = None }
      said = simp fold-roll-Expression

  pub second-judged : (o : RelationalOperator) (s : Simple) → comparison_judged scopes (comparison_node o s) ≡ record { operator = o; operand = simple_judged scopes s }
  second-judged o s = simp fold-roll-Comparison

  pub simple-judged : (at : ℕ) (o : Option Sign) (t : Term) (more : List Addend) → simple_judged scopes (simple_node at o t more) ≡ chained added (when_accepted (signed o) (term_judged scopes t)) (map (addend_judged scopes) more)
  simple-judged at o t more = ap (λ x. x.judged) said
    where
      said : simple_said scopes (simple_node at o t more)
          ≡ record { judged = chained added (when_accepted (signed o) (term_judged scopes t)) (map (addend_judged scopes) more); alone = when_none o (when_empty (map (addend_judged scopes) more) (term_said scopes t).alone) }
      said = simp fold-roll-Simple

  pub addend-judged : (o : AddingOperator) (t : Term) → addend_judged scopes (addend_node o t) ≡ record { operator = o; operand = term_judged scopes t }
  addend-judged o t = simp fold-roll-Addend

  pub term-judged : (at : ℕ) (f : Factor) (more : List Multiplier) → term_judged scopes (term_node at f more) ≡ chained multiplied (factor_judged scopes f) (map (multiplier_judged scopes) more)
  term-judged at f more = ap (λ x. x.judged) said
    where
      said : term_said scopes (term_node at f more) ≡ record { judged = chained multiplied (factor_judged scopes f) (map (multiplier_judged scopes) more); alone = when_empty (map (multiplier_judged scopes) more) (factor_said scopes f).alone }
      said = simp fold-roll-Term

  pub multiplier-judged : (o : MultiplyingOperator) (f : Factor) → multiplier_judged scopes (multiplier_node o f) ≡ record { operator = o; operand = factor_judged scopes f }
  multiplier-judged o f = simp fold-roll-Multiplier

  pub access-judged : (at : ℕ) (name : List ℕ) (more : List Selector) → name_judged scopes (access_node at name more) ≡ access_judged scopes name (map (selected scopes) more)
  access-judged at name more = ap (λ x. x.judged) said
    where
      said : name_said scopes (access_node at name more) ≡ record { judged = access_judged scopes name (map (selected scopes) more); alone = when_plain (map (selected scopes) more) name }
      said = simp fold-roll-Access

  -- what the fold gives of a factor, and of what stands in the brackets of a structured value
  pub factor-rolled : (f : Factor-F ComponentValue Element Factor Selector Access Addend Argument Comparison Expression LabelTree Multiplier Simple Term Values) → factor_said scopes (roll-Factor f) ≡ at_factor scopes (map-Factor ComponentValue Element Factor Selector Access Addend Argument Comparison Expression LabelTree Multiplier Simple Term Values Valued Written Said Selected Said (Operand AddingOperator) Given (Operand RelationalOperator) Said Label (Operand MultiplyingOperator) Said Said Components (judged_value scopes) (element_written scopes) (factor_said scopes) (selected scopes) (name_said scopes) (addend_judged scopes) (given scopes) (comparison_judged scopes) (expression_said scopes) (labelled scopes) (multiplier_judged scopes) (simple_said scopes) (term_said scopes) (components_written scopes) f)
  factor-rolled f = fold-roll-Factor Valued Written Said Selected Said (Operand AddingOperator) Given (Operand RelationalOperator) Said Label (Operand MultiplyingOperator) Said Said Components (at_component_value scopes) (at_element scopes) (at_factor scopes) (at_selector scopes) (at_access scopes) (at_addend scopes) (at_argument scopes) (at_comparison scopes) (at_expression scopes) (at_label scopes) (at_multiplier scopes) (at_simple scopes) (at_term scopes) (at_values scopes) f

  pub values-rolled : (v : Values-F ComponentValue Element Factor Selector Access Addend Argument Comparison Expression LabelTree Multiplier Simple Term Values) → components_written scopes (roll-Values v) ≡ at_values scopes (map-Values ComponentValue Element Factor Selector Access Addend Argument Comparison Expression LabelTree Multiplier Simple Term Values Valued Written Said Selected Said (Operand AddingOperator) Given (Operand RelationalOperator) Said Label (Operand MultiplyingOperator) Said Said Components (judged_value scopes) (element_written scopes) (factor_said scopes) (selected scopes) (name_said scopes) (addend_judged scopes) (given scopes) (comparison_judged scopes) (expression_said scopes) (labelled scopes) (multiplier_judged scopes) (simple_said scopes) (term_said scopes) (components_written scopes) v)
  values-rolled v = fold-roll-Values Valued Written Said Selected Said (Operand AddingOperator) Given (Operand RelationalOperator) Said Label (Operand MultiplyingOperator) Said Said Components (at_component_value scopes) (at_element scopes) (at_factor scopes) (at_selector scopes) (at_access scopes) (at_addend scopes) (at_argument scopes) (at_comparison scopes) (at_expression scopes) (at_label scopes) (at_multiplier scopes) (at_simple scopes) (at_term scopes) (at_values scopes) v

  pub name-judged : (at : ℕ) (name : List ℕ) (more : List Selector) → factor_judged scopes (factor.Access (access_node at name more)) ≡ access_judged scopes name (map (selected scopes) more)
  name-judged at name more = ap (factor_judged scopes) (sym (factor.rolls-Access (access_node at name more))) ∙ (ap (λ x. x.judged) (factor-rolled (Factor-F.Access (access_node at name more))) ∙ access-judged at name more)

  pub arguments-judged : (at : ℕ) (more : List Argument) → selected scopes (selector.Arguments at more) ≡ Arguments (map (given scopes) more)
  arguments-judged at more = ap (selected scopes) (sym (selector.rolls-Arguments at more)) ∙ simp fold-roll-Selector

  pub indexes-judged : (at : ℕ) (more : List Expression) → selected scopes (selector.Index at more) ≡ Indexes (map (judged scopes) more)
  indexes-judged at more = ap (selected scopes) (sym (selector.rolls-Index at more)) ∙ (said ∙ ap Indexes (judged-all scopes more))
    where
      said : selected scopes (roll-Selector (Selector-F.Index at more)) ≡ Indexes (map (λ x. x.judged) (map (expression_said scopes) more))
      said = simp fold-roll-Selector

  pub field-judged : (at : ℕ) (name : List ℕ) → selected scopes (selector.Field at name) ≡ Field name
  field-judged at name = ap (selected scopes) (sym (selector.rolls-Field at name)) ∙ simp fold-roll-Selector

  pub argument-judged : (at : ℕ) (e : Expression) → given scopes (argument_node at e None) ≡ record { value = judged scopes e; width = None }
  argument-judged at e = simp fold-roll-Argument

  pub wide-judged : (at : ℕ) (e w : Expression) → given scopes (argument_node at e (Some w)) ≡ record { value = judged scopes e; width = Some (judged scopes w) }
  wide-judged at e w = simp fold-roll-Argument

  -- the value of an argument
  pub given-value : (a : Argument) → (given scopes a).value ≡ judged scopes (out-Argument a).value
  given-value a = ap (λ x. (given scopes x).value) (sym (roll-out-Argument a)) ∙ in_node (out-Argument a).width
    where
      in_node : (w : Option Expression) → (given scopes (argument_node (out-Argument a).line (out-Argument a).value w)).value ≡ judged scopes (out-Argument a).value
      in_node None = ap (λ g. g.value) (argument-judged (out-Argument a).line (out-Argument a).value)
      in_node (Some w) = ap (λ g. g.value) (wide-judged (out-Argument a).line (out-Argument a).value w)

  -- a label of a set constructor, of one value and of two
  pub value-labelled : (at : ℕ) (low : Expression) → labelled scopes (label_node at low None) ≡ record { low = judged scopes low; high = None; name = (expression_said scopes low).alone }
  value-labelled at low = simp fold-roll-Label

  pub range-labelled : (at : ℕ) (low high : Expression) → labelled scopes (label_node at low (Some high)) ≡ record { low = judged scopes low; high = Some (judged scopes high); name = None }
  range-labelled at low high = simp fold-roll-Label

  pub number-judged : (at : ℕ) (n : ℤ) → factor_judged scopes (factor.Number at n) ≡ spelled host.Integer n
  number-judged at n = ap (factor_judged scopes) (sym (factor.rolls-Number at n)) ∙ ap (λ x. x.judged) (factor-rolled (Factor-F.Number at n))

  pub parenthesized-judged : (at : ℕ) (e : Expression) → factor_judged scopes (factor.Parenthesized at e) ≡ when_accepted (λ x. Accepts (parenthesized x)) (judged scopes e)
  parenthesized-judged at e = ap (factor_judged scopes) (sym (factor.rolls-Parenthesized at e)) ∙ ap (λ x. x.judged) (factor-rolled (Factor-F.Parenthesized at e))

  pub string-judged : (at : ℕ) (b : List ℕ) → factor_judged scopes (factor.Text at b) ≡ string_judged b
  string-judged at b = ap (factor_judged scopes) (sym (factor.rolls-Text at b)) ∙ ap (λ x. x.judged) (factor-rolled (Factor-F.Text at b))

  -- an expression that is an access
  pub access-alone : (a : Access) → judged scopes (access_expression a) ≡ name_judged scopes a
  access-alone a =
      expression-judged 1 (simple_node 1 None (term_node 1 (factor.Access a) []) []) ∙ (simple-judged 1 None (term_node 1 (factor.Access a) []) []
      ∙ (unsigned (term_judged scopes (term_node 1 (factor.Access a) [])) ∙ (term-judged 1 (factor.Access a) [] ∙ (ap (factor_judged scopes) (sym (factor.rolls-Access a)) ∙ ap (λ x. x.judged) (factor-rolled (Factor-F.Access a))))))
