-- What gives a variable a value in an argument and in a label, by their parts (specs/Giving.antt).
use Rattle.std.proofs.Common.{◌≡◌, ◌∙◌, ℕ, Bool, true, false, List, Option, Some, None, sym, ap}
use Rattle.std.specs.Prelude.{◌||◌}
use Rattle.std.specs.Option.{option_map}
use Rattle.ep_tree.specs.Nodes.{argument_node, label_node}
use Rattle.ep_tree.specs.declared.expression.Argument.{Argument, out-Argument, roll-out-Argument}
use Rattle.ep_tree.specs.declared.expression.ComponentValue.TheFolds.{fold-roll-Argument, fold-roll-Label}
use Rattle.ep_tree.specs.declared.expression.Expression.{Expression}
use Rattle.ep_tree.specs.declared.expression.Label.{Label, out-Label, roll-out-Label}
use Rattle.ep_unit_rules.specs.Giving.{argument_gives, expression_gives, inside_if, label_gives}

module _ (name : List ℕ) where
  argument_at : (line : ℕ) (value : Expression) (width : Option Expression) → argument_gives name (argument_node line value width) ≡ (expression_gives name value true || inside_if (option_map (expression_gives name) width))
  argument_at line value None = simp fold-roll-Argument
  argument_at line value (Some w) = simp fold-roll-Argument

  argument_is : (a : Argument) → argument_gives name a ≡ (expression_gives name (out-Argument a).value true || inside_if (option_map (expression_gives name) (out-Argument a).width))
  argument_is a = ap (argument_gives name) (sym (roll-out-Argument a)) ∙ argument_at (out-Argument a).line (out-Argument a).value (out-Argument a).width

  -- an argument whose value does not, by its width
  pub argument_by_width : (a : Argument) (w : Expression) (b : Bool) → (out-Argument a).width ≡ Some w → false ≡ expression_gives name (out-Argument a).value true → b ≡ expression_gives name w false → b ≡ argument_gives name a
  argument_by_width a w b there other given =
      given
      ∙ sym (argument_is a ∙ (ap (λ c. c || inside_if (option_map (expression_gives name) (out-Argument a).width)) (sym other) ∙ ap (λ o. inside_if (option_map (expression_gives name) o)) there))

  label_at : (line : ℕ) (low : Expression) (high : Option Expression) → label_gives name (label_node line low high) ≡ (expression_gives name low false || inside_if (option_map (expression_gives name) high))
  label_at line low None = simp fold-roll-Label
  label_at line low (Some h) = simp fold-roll-Label

  label_is : (l : Label) → label_gives name l ≡ (expression_gives name (out-Label l).low false || inside_if (option_map (expression_gives name) (out-Label l).high))
  label_is l = ap (label_gives name) (sym (roll-out-Label l)) ∙ label_at (out-Label l).line (out-Label l).low (out-Label l).high

  -- a label whose first value does not, by its last one
  pub label_by_high : (l : Label) (h : Expression) (b : Bool) → (out-Label l).high ≡ Some h → false ≡ expression_gives name (out-Label l).low false → b ≡ expression_gives name h false → b ≡ label_gives name l
  label_by_high l h b there other given =
      given
      ∙ sym (label_is l ∙ (ap (λ c. c || inside_if (option_map (expression_gives name) (out-Label l).high)) (sym other) ∙ ap (λ o. inside_if (option_map (expression_gives name) o)) there))
