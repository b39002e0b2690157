-- The productions of expressions and component values (ISO 10206, 6.5, 6.8).
use Rattle.std.specs.Prelude.{ℕ, List, [], ◌∷◌, ◌++◌, Option, Some, None}
use Rattle.ep_token.specs.declared.symbol.TheConstants as sym
use Rattle.ep_token.specs.declared.word.TheConstants as word
use Rattle.ep_tree.specs.declared.operator.QualifiedName.{QualifiedName}
use Rattle.ep_tree.specs.declared.expression.Expression.{Expression}
use Rattle.ep_tree.specs.declared.expression.Comparison.{Comparison}
use Rattle.ep_tree.specs.declared.expression.Simple.{Simple}
use Rattle.ep_tree.specs.declared.expression.Addend.{Addend}
use Rattle.ep_tree.specs.declared.expression.Term.{Term}
use Rattle.ep_tree.specs.declared.expression.Multiplier.{Multiplier}
use Rattle.ep_tree.specs.declared.expression.Factor.{Factor}
use Rattle.ep_tree.specs.declared.expression.Factor.TheVariants as factor_is
use Rattle.ep_tree.specs.declared.expression.Access.{Access}
use Rattle.ep_tree.specs.declared.expression.Selector.{Selector}
use Rattle.ep_tree.specs.declared.expression.Selector.TheVariants as selector_is
use Rattle.ep_tree.specs.declared.expression.Argument.{Argument}
use Rattle.ep_tree.specs.declared.expression.Label.{Label}
use Rattle.ep_tree.specs.declared.expression.ComponentValue.{ComponentValue}
use Rattle.ep_tree.specs.declared.expression.ComponentValue.TheVariants as value_is
use Rattle.ep_tree.specs.declared.expression.Values.{Values}
use Rattle.ep_tree.specs.declared.expression.Element.{Element}
use Rattle.ep_tree.specs.declared.expression.Element.TheVariants as element_is
use Rattle.ep_grammar.specs.Classes.{Class, Word, Symbol, Name, Number, Text, Interface, Implementation, Forward}
use Rattle.ep_grammar.specs.Classes.{classes}
use Rattle.ep_grammar.specs.Classes.{Sort as sort}
use Rattle.ep_grammar.specs.Descriptions.{expressions, factors, component_values, elements, bracketed_values, Syntax}
use Rattle.ep_grammar.specs.Descriptions.{give, token, line, inside, either, switch, row, deeper, always_first, shaped}
use Rattle.ep_grammar.specs.Descriptions.{◌&◌, ◌<*◌, symbol, keyword, optional, many, separated, item_or_end}
use Rattle.ep_grammar.specs.Descriptions.{first_of_pair}
use Rattle.ep_tree.specs.Shapes.{all_single, as_identifier}
use Rattle.ep_tree.specs.Nodes.{qualified_node, expression_node, comparison_node, simple_node, addend_node, term_node}
use Rattle.ep_tree.specs.Nodes.{multiplier_node, access_node, argument_node, label_node, values_node}

abbrev pub name : Syntax (List ℕ)
name = token sort.names

abbrev pub on : ℕ → List Class
on n = Symbol n ∷ []

abbrev pub on_word : ℕ → List Class
on_word n = Word n ∷ []

-- ---- what begins the productions

abbrev pub of_name : List Class
of_name = Name ∷ Interface ∷ Implementation ∷ Forward ∷ []

abbrev pub of_factor : List Class
of_factor =
    Name ∷ Interface ∷ Implementation ∷ Forward ∷ Number ∷ Text ∷ Word word.NIL ∷ Word word.NOT ∷
    Symbol sym.LEFT_PARENTHESIS ∷ Symbol sym.LEFT_BRACKET ∷ []

abbrev pub of_expression : List Class
of_expression = Symbol sym.PLUS ∷ Symbol sym.MINUS ∷ of_factor

abbrev pub of_element : List Class
of_element = Word word.CASE ∷ of_expression

abbrev pub of_values : List Class
of_values = Word word.OTHERWISE ∷ of_element

abbrev pub of_selector : List Class
of_selector = Symbol sym.PERIOD ∷ Symbol sym.LEFT_BRACKET ∷ Symbol sym.CARET ∷ Symbol sym.LEFT_PARENTHESIS ∷ []

-- ---- names and labels

-- `name = id [ "." id ]`
unfoldable pub qualified_name : Syntax QualifiedName
qualified_name =
    give qualified_node & line & name & optional (on sym.PERIOD) (give (λ n. n) <* symbol sym.PERIOD & name)

-- `label = expr [ ".." expr ]`
unfoldable pub label_of : Syntax Expression → Syntax Label
label_of e = give label_node & line & e & optional (on sym.RANGE) (give (λ x. x) <* symbol sym.RANGE & e)

-- the labels inside a bracket
unfoldable pub inner_labels : Syntax (List Label)
inner_labels = separated sym.COMMA (label_of (inside expressions))

-- ---- accesses

-- `arg = expr [ ":" expr ]`
unfoldable pub argument : Syntax Argument
argument =
    give argument_node & line & inside expressions
    & optional (on sym.COLON) (give (λ x. x) <* symbol sym.COLON & inside expressions)

unfoldable pub field_selector : Syntax Selector
field_selector = give selector_is.Field & line <* symbol sym.PERIOD & name

unfoldable pub inner_expressions : Syntax (List Expression)
inner_expressions = separated sym.COMMA (inside expressions)

unfoldable pub index_selector : Syntax Selector
index_selector =
    deeper (on sym.LEFT_BRACKET) (
    give selector_is.Index & line <* symbol sym.LEFT_BRACKET & inner_expressions <* symbol sym.RIGHT_BRACKET)

unfoldable pub pointer_selector : Syntax Selector
pointer_selector = give selector_is.Dereference & line <* symbol sym.CARET

unfoldable pub arguments : Syntax (List Argument)
arguments = separated sym.COMMA argument

unfoldable pub argument_selector : Syntax Selector
argument_selector =
    deeper (on sym.LEFT_PARENTHESIS) (
    give selector_is.Arguments & line <* symbol sym.LEFT_PARENTHESIS & arguments <* symbol sym.RIGHT_PARENTHESIS)

unfoldable pub selector : Syntax Selector
selector =
    either (on sym.PERIOD) field_selector (
    either (on sym.LEFT_BRACKET) index_selector (
    either (on sym.CARET) pointer_selector argument_selector))

unfoldable pub selectors : Syntax (List Selector)
selectors = many of_selector selector

-- `access = id { "." id | "[" expr { "," expr } "]" | "^" | "(" arg { "," arg } ")" }`
unfoldable pub access : Syntax Access
access = give access_node & line & name & selectors

-- ---- values: what follows the first element, by what an element and a component value are

unfoldable pub otherwise_of : Syntax ComponentValue → Syntax ComponentValue
otherwise_of v = give (λ x u. x) <* keyword word.OTHERWISE & v & optional (on sym.SEMICOLON) (symbol sym.SEMICOLON)

unfoldable pub more_elements_of : Syntax Element → Syntax (List Element)
more_elements_of e = give first_of_pair & row (give []) (on sym.SEMICOLON) (item_or_end of_element e) (tt {0})

abbrev pub Rest : Type 0
Rest = List Element × Option ComponentValue

-- the values with this first element
abbrev pub values_from : Rest → ℕ → Element → Values
values_from rest at first = values_node at (first ∷ rest.0) rest.1

unfoldable pub values_rest_of : Syntax Element → Syntax ComponentValue → Syntax Rest
values_rest_of e v =
    give (λ more otherwise. (more, otherwise)) & more_elements_of e
    & optional (on_word word.OTHERWISE) (otherwise_of v)

unfoldable pub inner_values_rest : Syntax Rest
inner_values_rest = values_rest_of (inside elements) (inside component_values)

-- the values from after the first element to the bracket
unfoldable pub inner_values_end : Syntax Rest
inner_values_end = give (λ r. r) & inner_values_rest <* symbol sym.RIGHT_BRACKET

-- ---- factors. A name may be followed by a bracket with values, so the two are told apart after its labels.

abbrev pub Called : Type 0
Called = ℕ → List ℕ → Option (ℕ × List ℕ) → Factor

abbrev pub field_of : Option (ℕ × List ℕ) → List Selector
field_of None = []
field_of (Some p) = selector_is.Field p.0 p.1 ∷ []

abbrev pub second_of : Option (ℕ × List ℕ) → Option (List ℕ)
second_of None = None
second_of (Some p) = Some p.1

-- an access of this name
abbrev pub accessed : List Selector → Called
accessed more at n second = factor_is.Access (access_node at n (field_of second ++ more))

-- an access of this name that begins with an index
abbrev pub indexed : List Selector → List Expression → ℕ → Called
indexed more es at_bracket at n second =
    factor_is.Access (access_node at n (field_of second ++ (selector_is.Index at_bracket es ∷ more)))

-- a structured value of the type of this name
abbrev pub structured : Values → ℕ → Called
structured v at_bracket at n second = factor_is.Structured at (qualified_node at n (second_of second)) v

abbrev pub structured_from : ComponentValue → Rest → ℕ × List Label → ℕ → Called
structured_from v rest start = structured (values_from rest start.0 (element_is.Labelled start.0 start.1 v))

unfoldable pub labels_start : Syntax (ℕ × List Label)
labels_start = give (λ at ls. (at, ls)) & line & inner_labels

unfoldable pub structured_tail : Syntax (ℕ × List Label → ℕ → Called)
structured_tail = give structured_from <* symbol sym.COLON & inside component_values & inner_values_end

unfoldable pub index_tail : Syntax (List Expression → ℕ → Called)
index_tail = give (λ more es. indexed more es) <* symbol sym.RIGHT_BRACKET & selectors

abbrev pub single_labels : ℕ × List Label → Option (List Expression)
single_labels p = all_single p.1

unfoldable pub bracket_labels : Syntax (ℕ → Called)
bracket_labels =
    shaped labels_start Some (on sym.COLON) structured_tail single_labels index_tail (always_first (λ p. tt {0}))

unfoldable pub bracket_values : Syntax (ℕ → Called)
bracket_values = give structured & inside bracketed_values <* symbol sym.RIGHT_BRACKET

unfoldable pub bracket : Syntax Called
bracket =
    deeper (on sym.LEFT_BRACKET) (
    give (λ at_bracket r. r at_bracket) & line <* symbol sym.LEFT_BRACKET
    & switch (Word word.OTHERWISE ∷ Word word.CASE ∷ []) bracket_values bracket_labels)

unfoldable pub called_rest : Syntax Called
called_rest = switch (on sym.LEFT_BRACKET) bracket (give accessed & selectors)

unfoldable pub called_field : Syntax (ℕ → List ℕ → Factor)
called_field = give (λ p m r at n. r at n (Some (p, m))) & line <* symbol sym.PERIOD & name & called_rest

-- `access | name "[" values "]"`
unfoldable pub called : Syntax Factor
called =
    give (λ at n r. r at n) & line & name
    & switch (on sym.PERIOD) called_field (give (λ r at n. r at n None) & called_rest)

unfoldable pub number_factor : Syntax Factor
number_factor = give factor_is.Number & line & token sort.numbers

unfoldable pub text_factor : Syntax Factor
text_factor = give factor_is.Text & line & token sort.texts

unfoldable pub nil_factor : Syntax Factor
nil_factor = give factor_is.Nil & line <* keyword word.NIL

unfoldable pub parenthesized : Syntax Factor
parenthesized =
    deeper (on sym.LEFT_PARENTHESIS) (
    give factor_is.Parenthesized & line <* symbol sym.LEFT_PARENTHESIS & inside expressions
    <* symbol sym.RIGHT_PARENTHESIS)

unfoldable pub negated : Syntax Factor
negated = deeper (on_word word.NOT) (give factor_is.Not & line <* keyword word.NOT & inside factors)

unfoldable pub members : Syntax (List Label)
members = deeper of_expression (give (λ ls. ls) & inner_labels <* symbol sym.RIGHT_BRACKET)

unfoldable pub set_constructor : Syntax Factor
set_constructor =
    give factor_is.Set & line <* symbol sym.LEFT_BRACKET
    & either (on sym.RIGHT_BRACKET) (give [] <* symbol sym.RIGHT_BRACKET) members

-- `factor = access | number | string | "nil" | "(" expr ")" | "not" factor | "[" [ label { "," label } ] "]" | name
-- "[" values "]"`
unfoldable pub factor : Syntax Factor
factor =
    either of_name called (
    either (Number ∷ []) number_factor (
    either (Text ∷ []) text_factor (
    either (on_word word.NIL) nil_factor (
    either (on_word word.NOT) negated (
    either (on sym.LEFT_PARENTHESIS) parenthesized set_constructor)))))

-- ---- terms and expressions

unfoldable pub multiplier : Syntax Multiplier
multiplier = give multiplier_node & token sort.multiplying_operators & factor

unfoldable pub multipliers : Syntax (List Multiplier)
multipliers = many (classes sort.multiplying_operators) multiplier

-- `term = factor { multiplying-operator factor }`
unfoldable pub term : Syntax Term
term = give term_node & line & factor & multipliers

unfoldable pub addend : Syntax Addend
addend = give addend_node & token sort.adding_operators & term

unfoldable pub addends : Syntax (List Addend)
addends = many (classes sort.adding_operators) addend

-- `simple = [ sign ] term { adding-operator term }`
unfoldable pub simple : Syntax Simple
simple = give simple_node & line & optional (classes sort.signs) (token sort.signs) & term & addends

unfoldable pub comparison : Syntax Comparison
comparison = give comparison_node & token sort.relational_operators & simple

unfoldable pub comparison_part : Syntax (Option Comparison)
comparison_part = optional (classes sort.relational_operators) comparison

-- `expr = simple [ relational-operator simple ]`
unfoldable pub expression : Syntax Expression
expression = give expression_node & line & simple & comparison_part

-- an expression from its first factor on
abbrev pub expression_from : List Multiplier → List Addend → Option Comparison → ℕ → Factor → Expression
expression_from ms ads c at f = expression_node at (simple_node at None (term_node at f ms) ads) c

unfoldable pub expression_rest : Syntax (ℕ → Factor → Expression)
expression_rest = give expression_from & multipliers & addends & comparison_part

unfoldable pub labels : Syntax (List Label)
labels = separated sym.COMMA (label_of expression)

-- ---- component values. A bracket may be a set, with which an expression begins, so the two are told apart after
-- its labels.

abbrev pub set_from : (ℕ → Factor → Expression) → List Label → ℕ → ComponentValue
set_from r ls at_bracket = value_is.Expression (r at_bracket (factor_is.Set at_bracket ls))

unfoldable pub set_tail : Syntax (ℕ → List Label → ℕ → ComponentValue)
set_tail = give (λ r at ls. set_from r ls) <* symbol sym.RIGHT_BRACKET & expression_rest

unfoldable pub values_tail : Syntax (ℕ → List Label → ℕ → ComponentValue)
values_tail =
    give (λ v r at ls at_bracket. value_is.Bracketed at_bracket (values_from r at (element_is.Labelled at ls v)))
    <* symbol sym.COLON & inside component_values & inner_values_end

unfoldable pub value_labels : Syntax (ℕ → ComponentValue)
value_labels = give (λ at ls t. t at ls) & line & inner_labels & either (on sym.RIGHT_BRACKET) set_tail values_tail

unfoldable pub value_values : Syntax (ℕ → ComponentValue)
value_values =
    give (λ v at_bracket. value_is.Bracketed at_bracket v) & inside bracketed_values <* symbol sym.RIGHT_BRACKET

unfoldable pub empty_set_tail : Syntax (ℕ → ComponentValue)
empty_set_tail = give (λ r. set_from r []) <* symbol sym.RIGHT_BRACKET & expression_rest

unfoldable pub value_content : Syntax (ℕ → ComponentValue)
value_content = deeper of_values (switch (Word word.OTHERWISE ∷ Word word.CASE ∷ []) value_values value_labels)

unfoldable pub bracketed_value : Syntax ComponentValue
bracketed_value =
    give (λ at_bracket r. r at_bracket) & line <* symbol sym.LEFT_BRACKET
    & either (on sym.RIGHT_BRACKET) empty_set_tail value_content

-- `cvalue = expr | "[" values "]"`
unfoldable pub component_value : Syntax ComponentValue
component_value = switch (on sym.LEFT_BRACKET) bracketed_value (give value_is.Expression & expression)

-- ---- elements

unfoldable pub labelled_element : Syntax Element
labelled_element = give element_is.Labelled & line & labels <* symbol sym.COLON & component_value

unfoldable pub filled_values : Syntax (Option Values)
filled_values = deeper of_values (give Some & inside bracketed_values <* symbol sym.RIGHT_BRACKET)

-- `"of" "[" [ values ] "]"`
unfoldable pub case_values : Syntax (Option Values)
case_values =
    give (λ x. x) <* keyword word.OF <* symbol sym.LEFT_BRACKET
    & either (on sym.RIGHT_BRACKET) (give None <* symbol sym.RIGHT_BRACKET) filled_values

unfoldable pub case_plain : Syntax (Expression → ℕ → Element)
case_plain = give (λ vs e at. element_is.Variant at None e vs) & case_values

unfoldable pub case_tagged : Syntax (List ℕ → ℕ → Element)
case_tagged = give (λ e vs n at. element_is.Variant at (Some n) e vs) <* symbol sym.COLON & expression & case_values

unfoldable pub case_tail : Syntax (ℕ → Element)
case_tail = shaped expression Some (on_word word.OF) case_plain as_identifier case_tagged (always_first (λ e. tt {0}))

unfoldable pub case_element : Syntax Element
case_element = give (λ at t. t at) & line <* keyword word.CASE & case_tail

-- `element = labels ":" cvalue | "case" [ id ":" ] expr "of" "[" [ values ] "]"`
unfoldable pub element : Syntax Element
element = either (on_word word.CASE) case_element labelled_element

unfoldable pub otherwise_values : Syntax Values
otherwise_values = give (λ at v. values_node at [] (Some v)) & line & otherwise_of component_value

unfoldable pub element_values : Syntax Values
element_values = give (λ at first r. values_from r at first) & line & element & values_rest_of element component_value

-- `values = element { ";" element } [ [ ";" ] "otherwise" cvalue ] [ ";" ] | "otherwise" cvalue [ ";" ]`
unfoldable pub values : Syntax Values
values = either (on_word word.OTHERWISE) otherwise_values element_values
