-- What the rules accept of a tree has every property that they keep: an induction over its nodes.
use Rattle.std.proofs.Common.{◌≡◌, ℕ, List, [], ◌∷◌, map, Option, Some, None, sym, subst}
use Rattle.std.specs.Prelude.{⊤}
use Rattle.ep_tree.specs.Nodes.{comparison_node, simple_node, addend_node, term_node, multiplier_node, access_node, argument_node}
use Rattle.ep_tree.specs.declared.expression.ComponentValue.TheFolds.{fold-roll-ComponentValue, fold-roll-Element, fold-roll-Selector, ind-ComponentValue, ind-Expression}
use Rattle.ep_tree.specs.declared.expression.ComponentValue.TheOpen.{ComponentValue-F, Element-F, Expression-F, Factor-F, Label-F, Selector-F, Values-F}
use Rattle.ep_tree.specs.declared.expression.ComponentValue.{ComponentValue, map-ComponentValue, roll-ComponentValue}
use Rattle.ep_tree.specs.declared.expression.Access.{Access, roll-Access}
use Rattle.ep_tree.specs.declared.expression.Addend.{Addend, roll-Addend}
use Rattle.ep_tree.specs.declared.expression.Argument.{Argument, roll-Argument}
use Rattle.ep_tree.specs.declared.expression.Comparison.{Comparison, roll-Comparison}
use Rattle.ep_tree.specs.declared.expression.Element.{Element, map-Element, roll-Element}
use Rattle.ep_tree.specs.declared.expression.Expression.{Expression, map-Expression, roll-Expression}
use Rattle.ep_tree.specs.declared.expression.Factor.{Factor, map-Factor, roll-Factor}
use Rattle.ep_tree.specs.declared.expression.Label.{Label, map-Label, roll-Label}
use Rattle.ep_tree.specs.declared.expression.Multiplier.{Multiplier, roll-Multiplier}
use Rattle.ep_tree.specs.declared.expression.Selector.{Selector, map-Selector, roll-Selector}
use Rattle.ep_tree.specs.declared.expression.Simple.{Simple, roll-Simple}
use Rattle.ep_tree.specs.declared.expression.Term.{Term, roll-Term}
use Rattle.ep_tree.specs.declared.expression.Values.{Values, map-Values, roll-Values}
use Rattle.ep_tree.specs.declared.operator.AddingOperator.{AddingOperator}
use Rattle.ep_tree.specs.declared.operator.MultiplyingOperator.{MultiplyingOperator}
use Rattle.ep_tree.specs.declared.operator.RelationalOperator.{RelationalOperator}
use Rattle.ep_tree.specs.declared.operator.Sign.{Sign}
use Rattle.ep_scope.specs.Scopes.{Region}
use Rattle.ep_check_expr.specs.Expressions.{Said, components_written, element_written, expression_said, factor_said, judged, judged_value, simple_judged, term_judged, factor_judged, addend_judged, multiplier_judged, comparison_judged, labelled, name_judged, selected, given}
use Rattle.ep_rules.specs.Judgements.{Accepts, Typed, when_accepted}
use Rattle.ep_rules.specs.Names.{parenthesized}
use Rattle.ep_rules.specs.Operators.{signed, negated, added, multiplied}
use Rattle.ep_check_expr.specs.StructuredValues.{Components, bracketed, named_number, structure_judged}
use Rattle.ep_check_expr.proofs.public.Nodes.{factor-rolled, values-rolled, access_expression, access-alone, expression-judged, compared-judged, second-judged, access-judged, range-labelled, simple-judged, value-labelled, addend-judged, term-judged, multiplier-judged, argument-judged, wide-judged}
use Rattle.ep_check_expr.proofs.Parts.{AreIndexes, AreOperands, IsSelected, AreSelected, when_accepted-fits, chained-fits, comparison_of-fits, string_judged-fits, access_judged-fits}
use Rattle.ep_check_expr.proofs.public.Keeping.{AreComponents, AreGiven, AreLabels, AreWritten, IsHigh, IsKept, IsValued, IsWritten, Satisfies, any-satisfies, then-satisfies}

module _ (Q : Typed → Type 0) (scopes : List Region) (kept : IsKept Q scopes) where
  -- what is accepted of a node has the property
  abbrev IsFactor : Factor → Type 0
  IsFactor f = Satisfies Q (factor_judged scopes f)

  abbrev HasArguments : Selector → Type 0
  HasArguments s = IsSelected Q (selected scopes s)

  abbrev IsAccess : Access → Type 0
  IsAccess a = Satisfies Q (name_judged scopes a)

  abbrev IsAddend : Addend → Type 0
  IsAddend a = Satisfies Q (addend_judged scopes a).operand

  abbrev IsArgument : Argument → Type 0
  IsArgument a = Satisfies Q (given scopes a).value

  abbrev IsComparison : Comparison → Type 0
  IsComparison c = Satisfies Q (comparison_judged scopes c).operand

  abbrev IsExpression : Expression → Type 0
  IsExpression e = Satisfies Q (judged scopes e)

  abbrev IsLabel : Label → Type 0
  IsLabel l = Satisfies Q (labelled scopes l).low × IsHigh Q (labelled scopes l).high

  abbrev IsMultiplier : Multiplier → Type 0
  IsMultiplier m = Satisfies Q (multiplier_judged scopes m).operand

  abbrev IsSimple : Simple → Type 0
  IsSimple s = Satisfies Q (simple_judged scopes s)

  abbrev IsTerm : Term → Type 0
  IsTerm t = Satisfies Q (term_judged scopes t)

  abbrev IsValue : ComponentValue → Type 0
  IsValue v = IsValued Q (judged_value scopes v)

  abbrev IsElement : Element → Type 0
  IsElement e = IsWritten Q (element_written scopes e)

  abbrev AreValues : Values → Type 0
  AreValues v = AreComponents Q (components_written scopes v)

  -- nodes of which this holds
  abbrev ValidValue : Type 0
  ValidValue = (v : ComponentValue) × IsValue v

  abbrev ValidElement : Type 0
  ValidElement = (e : Element) × IsElement e

  abbrev ValidFactor : Type 0
  ValidFactor = (f : Factor) × IsFactor f

  abbrev ValidSelector : Type 0
  ValidSelector = (s : Selector) × HasArguments s

  abbrev ValidAccess : Type 0
  ValidAccess = (a : Access) × IsAccess a

  abbrev ValidAddend : Type 0
  ValidAddend = (a : Addend) × IsAddend a

  abbrev ValidArgument : Type 0
  ValidArgument = (a : Argument) × IsArgument a

  abbrev ValidComparison : Type 0
  ValidComparison = (c : Comparison) × IsComparison c

  abbrev ValidExpression : Type 0
  ValidExpression = (e : Expression) × IsExpression e

  abbrev ValidLabel : Type 0
  ValidLabel = (l : Label) × IsLabel l

  abbrev ValidMultiplier : Type 0
  ValidMultiplier = (m : Multiplier) × IsMultiplier m

  abbrev ValidSimple : Type 0
  ValidSimple = (s : Simple) × IsSimple s

  abbrev ValidTerm : Type 0
  ValidTerm = (t : Term) × IsTerm t

  abbrev ValidValues : Type 0
  ValidValues = (v : Values) × AreValues v

  -- layers of such nodes, without what holds of them
  abbrev factor_layer : Factor-F ValidValue ValidElement ValidFactor ValidSelector ValidAccess ValidAddend ValidArgument ValidComparison ValidExpression ValidLabel ValidMultiplier ValidSimple ValidTerm ValidValues → Factor-F ComponentValue Element Factor Selector Access Addend Argument Comparison Expression Label Multiplier Simple Term Values
  factor_layer = map-Factor ValidValue ValidElement ValidFactor ValidSelector ValidAccess ValidAddend ValidArgument ValidComparison ValidExpression ValidLabel ValidMultiplier ValidSimple ValidTerm ValidValues ComponentValue Element Factor Selector Access Addend Argument Comparison Expression Label Multiplier Simple Term Values (λ e. e.0) (λ e. e.0) (λ e. e.0) (λ e. e.0) (λ e. e.0) (λ e. e.0) (λ e. e.0) (λ e. e.0) (λ e. e.0) (λ e. e.0) (λ e. e.0) (λ e. e.0) (λ e. e.0) (λ e. e.0)

  abbrev selector_layer : Selector-F ValidValue ValidElement ValidFactor ValidSelector ValidAccess ValidAddend ValidArgument ValidComparison ValidExpression ValidLabel ValidMultiplier ValidSimple ValidTerm ValidValues → Selector-F ComponentValue Element Factor Selector Access Addend Argument Comparison Expression Label Multiplier Simple Term Values
  selector_layer = map-Selector ValidValue ValidElement ValidFactor ValidSelector ValidAccess ValidAddend ValidArgument ValidComparison ValidExpression ValidLabel ValidMultiplier ValidSimple ValidTerm ValidValues ComponentValue Element Factor Selector Access Addend Argument Comparison Expression Label Multiplier Simple Term Values (λ e. e.0) (λ e. e.0) (λ e. e.0) (λ e. e.0) (λ e. e.0) (λ e. e.0) (λ e. e.0) (λ e. e.0) (λ e. e.0) (λ e. e.0) (λ e. e.0) (λ e. e.0) (λ e. e.0) (λ e. e.0)

  abbrev expression_layer : Expression-F ValidValue ValidElement ValidFactor ValidSelector ValidAccess ValidAddend ValidArgument ValidComparison ValidExpression ValidLabel ValidMultiplier ValidSimple ValidTerm ValidValues → Expression-F ComponentValue Element Factor Selector Access Addend Argument Comparison Expression Label Multiplier Simple Term Values
  expression_layer = map-Expression ValidValue ValidElement ValidFactor ValidSelector ValidAccess ValidAddend ValidArgument ValidComparison ValidExpression ValidLabel ValidMultiplier ValidSimple ValidTerm ValidValues ComponentValue Element Factor Selector Access Addend Argument Comparison Expression Label Multiplier Simple Term Values (λ e. e.0) (λ e. e.0) (λ e. e.0) (λ e. e.0) (λ e. e.0) (λ e. e.0) (λ e. e.0) (λ e. e.0) (λ e. e.0) (λ e. e.0) (λ e. e.0) (λ e. e.0) (λ e. e.0) (λ e. e.0)

  abbrev label_layer : Label-F ValidValue ValidElement ValidFactor ValidSelector ValidAccess ValidAddend ValidArgument ValidComparison ValidExpression ValidLabel ValidMultiplier ValidSimple ValidTerm ValidValues → Label-F ComponentValue Element Factor Selector Access Addend Argument Comparison Expression Label Multiplier Simple Term Values
  label_layer = map-Label ValidValue ValidElement ValidFactor ValidSelector ValidAccess ValidAddend ValidArgument ValidComparison ValidExpression ValidLabel ValidMultiplier ValidSimple ValidTerm ValidValues ComponentValue Element Factor Selector Access Addend Argument Comparison Expression Label Multiplier Simple Term Values (λ e. e.0) (λ e. e.0) (λ e. e.0) (λ e. e.0) (λ e. e.0) (λ e. e.0) (λ e. e.0) (λ e. e.0) (λ e. e.0) (λ e. e.0) (λ e. e.0) (λ e. e.0) (λ e. e.0) (λ e. e.0)

  abbrev value_layer : ComponentValue-F ValidValue ValidElement ValidFactor ValidSelector ValidAccess ValidAddend ValidArgument ValidComparison ValidExpression ValidLabel ValidMultiplier ValidSimple ValidTerm ValidValues → ComponentValue-F ComponentValue Element Factor Selector Access Addend Argument Comparison Expression Label Multiplier Simple Term Values
  value_layer = map-ComponentValue ValidValue ValidElement ValidFactor ValidSelector ValidAccess ValidAddend ValidArgument ValidComparison ValidExpression ValidLabel ValidMultiplier ValidSimple ValidTerm ValidValues ComponentValue Element Factor Selector Access Addend Argument Comparison Expression Label Multiplier Simple Term Values (λ e. e.0) (λ e. e.0) (λ e. e.0) (λ e. e.0) (λ e. e.0) (λ e. e.0) (λ e. e.0) (λ e. e.0) (λ e. e.0) (λ e. e.0) (λ e. e.0) (λ e. e.0) (λ e. e.0) (λ e. e.0)

  abbrev element_layer : Element-F ValidValue ValidElement ValidFactor ValidSelector ValidAccess ValidAddend ValidArgument ValidComparison ValidExpression ValidLabel ValidMultiplier ValidSimple ValidTerm ValidValues → Element-F ComponentValue Element Factor Selector Access Addend Argument Comparison Expression Label Multiplier Simple Term Values
  element_layer = map-Element ValidValue ValidElement ValidFactor ValidSelector ValidAccess ValidAddend ValidArgument ValidComparison ValidExpression ValidLabel ValidMultiplier ValidSimple ValidTerm ValidValues ComponentValue Element Factor Selector Access Addend Argument Comparison Expression Label Multiplier Simple Term Values (λ e. e.0) (λ e. e.0) (λ e. e.0) (λ e. e.0) (λ e. e.0) (λ e. e.0) (λ e. e.0) (λ e. e.0) (λ e. e.0) (λ e. e.0) (λ e. e.0) (λ e. e.0) (λ e. e.0) (λ e. e.0)

  abbrev values_layer : Values-F ValidValue ValidElement ValidFactor ValidSelector ValidAccess ValidAddend ValidArgument ValidComparison ValidExpression ValidLabel ValidMultiplier ValidSimple ValidTerm ValidValues → Values-F ComponentValue Element Factor Selector Access Addend Argument Comparison Expression Label Multiplier Simple Term Values
  values_layer = map-Values ValidValue ValidElement ValidFactor ValidSelector ValidAccess ValidAddend ValidArgument ValidComparison ValidExpression ValidLabel ValidMultiplier ValidSimple ValidTerm ValidValues ComponentValue Element Factor Selector Access Addend Argument Comparison Expression Label Multiplier Simple Term Values (λ e. e.0) (λ e. e.0) (λ e. e.0) (λ e. e.0) (λ e. e.0) (λ e. e.0) (λ e. e.0) (λ e. e.0) (λ e. e.0) (λ e. e.0) (λ e. e.0) (λ e. e.0) (λ e. e.0) (λ e. e.0)

  -- rows of such nodes
  elements-fit : (more : List ValidElement) → AreWritten Q (map (element_written scopes) (map (λ e. e.0) more))
  elements-fit [] = tt
  elements-fit (e ∷ more) = (e.1, elements-fit more)

  addends-fit : (more : List ValidAddend) → AreOperands Q (map (addend_judged scopes) (map (λ e. e.0) more))
  addends-fit [] = tt
  addends-fit (a ∷ more) = (a.1, addends-fit more)

  multipliers-fit : (more : List ValidMultiplier) → AreOperands Q (map (multiplier_judged scopes) (map (λ e. e.0) more))
  multipliers-fit [] = tt
  multipliers-fit (m ∷ more) = (m.1, multipliers-fit more)

  arguments-fit : (more : List ValidArgument) → AreGiven Q (map (given scopes) (map (λ e. e.0) more))
  arguments-fit [] = tt
  arguments-fit (a ∷ more) = (a.1, arguments-fit more)

  indexes-fit : (more : List ValidExpression) → AreIndexes Q (map (judged scopes) (map (λ e. e.0) more))
  indexes-fit [] = tt
  indexes-fit (e ∷ more) = (e.1, indexes-fit more)

  said-fit : (more : List ValidExpression) → AreIndexes Q (map (λ x. x.judged) (map (expression_said scopes) (map (λ e. e.0) more)))
  said-fit [] = tt
  said-fit (e ∷ more) = (e.1, said-fit more)

  labels-fit : (more : List ValidLabel) → AreLabels Q (map (labelled scopes) (map (λ e. e.0) more))
  labels-fit [] = tt
  labels-fit (l ∷ more) = (l.1, labels-fit more)

  selectors-fit : (more : List ValidSelector) → AreSelected Q (map (selected scopes) (map (λ e. e.0) more))
  selectors-fit [] = tt
  selectors-fit (s ∷ more) = (s.1, selectors-fit more)

  -- each node, where its parts have it
  factor_layer-fits : (f : Factor-F ValidValue ValidElement ValidFactor ValidSelector ValidAccess ValidAddend ValidArgument ValidComparison ValidExpression ValidLabel ValidMultiplier ValidSimple ValidTerm ValidValues) → (said : Said) → factor_said scopes (roll-Factor (factor_layer f)) ≡ said → Satisfies Q said.judged → IsFactor (roll-Factor (factor_layer f))
  factor_layer-fits f said is h = subst (λ z. Satisfies Q z.judged) (sym is) h

  factor-fits : (f : Factor-F ValidValue ValidElement ValidFactor ValidSelector ValidAccess ValidAddend ValidArgument ValidComparison ValidExpression ValidLabel ValidMultiplier ValidSimple ValidTerm ValidValues) → IsFactor (roll-Factor (factor_layer f))
  factor-fits (Factor-F.Access a) = factor_layer-fits (Factor-F.Access a) _ (factor-rolled scopes (factor_layer (Factor-F.Access a))) a.1
  factor-fits (Factor-F.Number at n) = factor_layer-fits (Factor-F.Number at n) _ (factor-rolled scopes (factor_layer (Factor-F.Number at n))) (kept.number n)
  factor-fits (Factor-F.Text at bytes) = factor_layer-fits (Factor-F.Text at bytes) _ (factor-rolled scopes (factor_layer (Factor-F.Text at bytes))) (string_judged-fits Q scopes kept bytes)
  factor-fits (Factor-F.Nil at) = factor_layer-fits (Factor-F.Nil at) _ (factor-rolled scopes (factor_layer (Factor-F.Nil at))) tt
  factor-fits (Factor-F.Parenthesized at e) =
      factor_layer-fits (Factor-F.Parenthesized at e) _ (factor-rolled scopes (factor_layer (Factor-F.Parenthesized at e))) (when_accepted-fits Q (λ x. Accepts (parenthesized x)) kept.parenthesizes (judged scopes e.0) e.1)
  factor-fits (Factor-F.Not at f) = factor_layer-fits (Factor-F.Not at f) _ (factor-rolled scopes (factor_layer (Factor-F.Not at f))) (when_accepted-fits Q negated kept.negates (factor_judged scopes f.0) f.1)
  factor-fits (Factor-F.Set at labels) =
      factor_layer-fits (Factor-F.Set at labels) _ (factor-rolled scopes (factor_layer (Factor-F.Set at labels))) (kept.constructs (map (labelled scopes) (map (λ e. e.0) labels)) (labels-fit labels))
  factor-fits (Factor-F.Structured at name values) =
      factor_layer-fits (Factor-F.Structured at name values) _ (factor-rolled scopes (factor_layer (Factor-F.Structured at name values)))
      (then-satisfies (λ n. ⊤) Q (structure_judged scopes (components_written scopes values.0)) (named_number scopes name.first name.second) (any-satisfies (named_number scopes name.first name.second)) (λ n t. kept.structures (components_written scopes values.0) values.1 n))

  selector-fits : (s : Selector-F ValidValue ValidElement ValidFactor ValidSelector ValidAccess ValidAddend ValidArgument ValidComparison ValidExpression ValidLabel ValidMultiplier ValidSimple ValidTerm ValidValues) → HasArguments (roll-Selector (selector_layer s))
  selector-fits (Selector-F.Field at name) = rw fold-roll-Selector tt
  selector-fits (Selector-F.Index at indexes) = rw fold-roll-Selector (said-fit indexes)
  selector-fits (Selector-F.Dereference at) = rw fold-roll-Selector tt
  selector-fits (Selector-F.Arguments at arguments) = rw fold-roll-Selector (arguments-fit arguments)

  expression-fits : (at : ℕ) (l : ValidSimple) (r : Option ValidComparison) → IsExpression (roll-Expression (expression_layer (record { line = at; left = l; right = r })))
  expression-fits at l None = subst (Satisfies Q) (sym (expression-judged scopes at l.0)) l.1
  expression-fits at l (Some c) =
      subst (Satisfies Q) (sym (compared-judged scopes at l.0 c.0))
      (comparison_of-fits Q scopes kept (comparison_judged scopes c.0).operator (simple_judged scopes l.0) (comparison_judged scopes c.0).operand l.1 c.1)

  comparison-fits : (o : RelationalOperator) (s : ValidSimple) → IsComparison (comparison_node o s.0)
  comparison-fits o s = subst (λ z. Satisfies Q z.operand) (sym (second-judged scopes o s.0)) s.1

  simple-fits : (at : ℕ) (o : Option Sign) (t : ValidTerm) (more : List ValidAddend) → IsSimple (simple_node at o t.0 (map (λ e. e.0) more))
  simple-fits at o t more =
      subst (Satisfies Q) (sym (simple-judged scopes at o t.0 (map (λ e. e.0) more)))
      (chained-fits Q added kept.adds (when_accepted (signed o) (term_judged scopes t.0)) (map (addend_judged scopes) (map (λ e. e.0) more))
      (when_accepted-fits Q (signed o) (kept.signs o) (term_judged scopes t.0) t.1) (addends-fit more))

  addend-fits : (o : AddingOperator) (t : ValidTerm) → IsAddend (addend_node o t.0)
  addend-fits o t = subst (λ z. Satisfies Q z.operand) (sym (addend-judged scopes o t.0)) t.1

  term-fits : (at : ℕ) (f : ValidFactor) (more : List ValidMultiplier) → IsTerm (term_node at f.0 (map (λ e. e.0) more))
  term-fits at f more =
      subst (Satisfies Q) (sym (term-judged scopes at f.0 (map (λ e. e.0) more)))
      (chained-fits Q multiplied kept.multiplies (factor_judged scopes f.0) (map (multiplier_judged scopes) (map (λ e. e.0) more)) f.1 (multipliers-fit more))

  multiplier-fits : (o : MultiplyingOperator) (f : ValidFactor) → IsMultiplier (multiplier_node o f.0)
  multiplier-fits o f = subst (λ z. Satisfies Q z.operand) (sym (multiplier-judged scopes o f.0)) f.1

  argument-fits : (at : ℕ) (e : ValidExpression) (w : Option Expression) → IsArgument (argument_node at e.0 w)
  argument-fits at e None = subst (λ z. Satisfies Q z.value) (sym (argument-judged scopes at e.0)) e.1
  argument-fits at e (Some w) = subst (λ z. Satisfies Q z.value) (sym (wide-judged scopes at e.0 w)) e.1

  label-fits : (at : ℕ) (low : ValidExpression) (high : Option ValidExpression) → IsLabel (roll-Label (label_layer (record { line = at; low = low; high = high })))
  label-fits at low None = subst (λ z. Satisfies Q z.low × IsHigh Q z.high) (sym (value-labelled scopes at low.0)) (low.1, tt)
  label-fits at low (Some high) = subst (λ z. Satisfies Q z.low × IsHigh Q z.high) (sym (range-labelled scopes at low.0 high.0)) (low.1, high.1)

  access-fits : (at : ℕ) (name : List ℕ) (more : List ValidSelector) → IsAccess (access_node at name (map (λ e. e.0) more))
  access-fits at name more =
      subst (Satisfies Q) (sym (access-judged scopes at name (map (λ e. e.0) more))) (access_judged-fits Q scopes kept name (map (selected scopes) (map (λ e. e.0) more)) (selectors-fit more))

  bracketed-fits : (c : Components) → AreComponents Q c → (asked : Option ℕ) → Satisfies Q (bracketed scopes c asked)
  bracketed-fits c h None = tt
  bracketed-fits c h (Some n) = kept.structures c h n

  value-fits : (v : ComponentValue-F ValidValue ValidElement ValidFactor ValidSelector ValidAccess ValidAddend ValidArgument ValidComparison ValidExpression ValidLabel ValidMultiplier ValidSimple ValidTerm ValidValues) → IsValue (roll-ComponentValue (value_layer v))
  value-fits (ComponentValue-F.Expression e) = rw fold-roll-ComponentValue (λ asked. e.1)
  value-fits (ComponentValue-F.Bracketed at values) = rw fold-roll-ComponentValue (bracketed-fits (components_written scopes values.0) values.1)

  element-fits : (e : Element-F ValidValue ValidElement ValidFactor ValidSelector ValidAccess ValidAddend ValidArgument ValidComparison ValidExpression ValidLabel ValidMultiplier ValidSimple ValidTerm ValidValues) → IsElement (roll-Element (element_layer e))
  element-fits (Element-F.Labelled at labels value) = rw fold-roll-Element (labels-fit labels, value.1)
  element-fits (Element-F.Variant at name tag None) = rw fold-roll-Element (tag.1, tt)
  element-fits (Element-F.Variant at name tag (Some values)) = rw fold-roll-Element (tag.1, values.1.0)

  values_of-fits : (at : ℕ) (es : List ValidElement) (o : Option ValidValue) → AreValues (roll-Values (values_layer (record { line = at; elements = es; otherwise = o })))
  values_of-fits at es None = subst (AreComponents Q) (sym (values-rolled scopes (values_layer (record { line = at; elements = es; otherwise = None })))) (elements-fit es, tt)
  values_of-fits at es (Some v) = subst (AreComponents Q) (sym (values-rolled scopes (values_layer (record { line = at; elements = es; otherwise = Some v })))) (elements-fit es, v.1)

  -- so every expression that is accepted has it
  pub expressions-fit : (e : Expression) → Satisfies Q (judged scopes e)
  expressions-fit = ind-Expression IsValue IsElement IsFactor HasArguments IsAccess IsAddend IsArgument IsComparison IsExpression IsLabel IsMultiplier IsSimple IsTerm AreValues
      (λ x y is. subst (λ z. IsValue (roll-ComponentValue z)) is (value-fits y))
      (λ x y is. subst (λ z. IsElement (roll-Element z)) is (element-fits y))
      (λ x y is. subst (λ z. IsFactor (roll-Factor z)) is (factor-fits y))
      (λ x y is. subst (λ z. HasArguments (roll-Selector z)) is (selector-fits y))
      (λ x y is. subst (λ z. IsAccess (roll-Access z)) is (access-fits y.line y.name y.selectors))
      (λ x y is. subst (λ z. IsAddend (roll-Addend z)) is (addend-fits y.operator y.term))
      (λ x y is. subst (λ z. IsArgument (roll-Argument z)) is (argument-fits y.line y.value _))
      (λ x y is. subst (λ z. IsComparison (roll-Comparison z)) is (comparison-fits y.operator y.right))
      (λ x y is. subst (λ z. IsExpression (roll-Expression z)) is (expression-fits y.line y.left y.right))
      (λ x y is. subst (λ z. IsLabel (roll-Label z)) is (label-fits y.line y.low y.high))
      (λ x y is. subst (λ z. IsMultiplier (roll-Multiplier z)) is (multiplier-fits y.operator y.factor))
      (λ x y is. subst (λ z. IsSimple (roll-Simple z)) is (simple-fits y.line y.sign y.first y.more))
      (λ x y is. subst (λ z. IsTerm (roll-Term z)) is (term-fits y.line y.first y.more))
      (λ x y is. subst (λ z. AreValues (roll-Values z)) is (values_of-fits y.line y.elements y.otherwise))

  -- and every access, which is an expression by itself
  pub accesses-fit : (a : Access) → Satisfies Q (name_judged scopes a)
  accesses-fit a = subst (Satisfies Q) (access-alone scopes a) (expressions-fit (access_expression a))

  -- and every value of a definition or of an assignment, whatever is asked of it
  pub values-fit : (v : ComponentValue) → IsValued Q (judged_value scopes v)
  values-fit = ind-ComponentValue IsValue IsElement IsFactor HasArguments IsAccess IsAddend IsArgument IsComparison IsExpression IsLabel IsMultiplier IsSimple IsTerm AreValues
      (λ x y is. subst (λ z. IsValue (roll-ComponentValue z)) is (value-fits y))
      (λ x y is. subst (λ z. IsElement (roll-Element z)) is (element-fits y))
      (λ x y is. subst (λ z. IsFactor (roll-Factor z)) is (factor-fits y))
      (λ x y is. subst (λ z. HasArguments (roll-Selector z)) is (selector-fits y))
      (λ x y is. subst (λ z. IsAccess (roll-Access z)) is (access-fits y.line y.name y.selectors))
      (λ x y is. subst (λ z. IsAddend (roll-Addend z)) is (addend-fits y.operator y.term))
      (λ x y is. subst (λ z. IsArgument (roll-Argument z)) is (argument-fits y.line y.value _))
      (λ x y is. subst (λ z. IsComparison (roll-Comparison z)) is (comparison-fits y.operator y.right))
      (λ x y is. subst (λ z. IsExpression (roll-Expression z)) is (expression-fits y.line y.left y.right))
      (λ x y is. subst (λ z. IsLabel (roll-Label z)) is (label-fits y.line y.low y.high))
      (λ x y is. subst (λ z. IsMultiplier (roll-Multiplier z)) is (multiplier-fits y.operator y.factor))
      (λ x y is. subst (λ z. IsSimple (roll-Simple z)) is (simple-fits y.line y.sign y.first y.more))
      (λ x y is. subst (λ z. IsTerm (roll-Term z)) is (term-fits y.line y.first y.more))
      (λ x y is. subst (λ z. AreValues (roll-Values z)) is (values_of-fits y.line y.elements y.otherwise))
