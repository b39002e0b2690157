-- What follows the labels of the first element of bracketed values.
use Rattle.std.specs.Prelude.{ℕ, List}
use Rattle.ep_token.specs.declared.symbol.TheConstants as sym
use Rattle.ep_tree.specs.declared.expression.Element.TheVariants as element_is
use Rattle.ep_tree.specs.declared.expression.Label.{Label}
use Rattle.ep_tree.specs.declared.expression.Values.{Values}
use Rattle.ep_grammar.specs.Descriptions.{component_values, Syntax, give, inside, ◌&◌, ◌<*◌, symbol}
use Rattle.ep_grammar.specs.Expressions.{inner_values_end, values_from}

-- `":" cvalue { ";" element } [ [ ";" ] "otherwise" cvalue ] [ ";" ] "]"`
unfoldable pub labelled_tail : Syntax (ℕ → List Label → Values)
labelled_tail =
    give (λ v rest at labels. values_from rest at (element_is.Labelled at labels v))
    <* symbol sym.COLON & inside component_values & inner_values_end
