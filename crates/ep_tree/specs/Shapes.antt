-- The shapes of expressions and labels by which productions with a common beginning are told apart.
use Rattle.std.specs.Prelude.{ℕ, List, [], ◌∷◌, Option, Some, None}
use Rattle.ep_tree.specs.declared.operator.QualifiedName.{QualifiedName}
use Rattle.ep_tree.specs.declared.expression.Expression.{Expression, out-Expression}
use Rattle.ep_tree.specs.declared.expression.Simple.{Simple, out-Simple}
use Rattle.ep_tree.specs.declared.expression.Term.{Term, out-Term}
use Rattle.ep_tree.specs.declared.expression.Factor.{Factor, out-Factor}
use Rattle.ep_tree.specs.declared.expression.Access.{out-Access}
use Rattle.ep_tree.specs.declared.expression.Selector.{Selector, out-Selector}
use Rattle.ep_tree.specs.declared.expression.Argument.{Argument, out-Argument}
use Rattle.ep_tree.specs.declared.expression.Label.{Label, out-Label}
use Rattle.ep_tree.specs.declared.expression.ComponentValue.TheOpen.{Factor-F, Selector-F}
use Rattle.ep_tree.specs.Nodes.{qualified_node}

abbrev pub added : {A : Type 0} → Option A → Option (List A) → Option (List A)
added (Some x) (Some xs) = Some (x ∷ xs)
added _ _ = None

-- what each item gives, if each gives something
unfoldable pub all_of : {A B : Type 0} → (A → Option B) → List A → Option (List B)
all_of f [] = Some []
all_of f (x ∷ xs) = added (f x) (all_of f xs)

-- this, where the other is absent
abbrev pub alone : {A B : Type 0} → A → Option B → Option A
alone x None = Some x
alone x (Some y) = None

-- an expression, if a label is one
abbrev pub single_label : Label → Option Expression
single_label l = alone (out-Label l).low (out-Label l).high

-- the expressions, if no label has two
abbrev pub all_single : List Label → Option (List Expression)
all_single ls = all_of single_label ls

abbrev pub when_none : {A B : Type 0} → Option A → Option B → Option B
when_none None o = o
when_none (Some x) o = None

abbrev pub when_empty : {A B : Type 0} → List A → Option B → Option B
when_empty [] o = o
when_empty (x ∷ xs) o = None

abbrev pub when_some : {A B : Type 0} → Option A → (A → Option B) → Option B
when_some None f = None
when_some (Some x) f = f x

-- a term's factor, if that is all
abbrev pub bare_term : Term → Option Factor
bare_term t = when_empty (out-Term t).more (Some (out-Term t).first)

abbrev pub bare_simple : Simple → Option Factor
bare_simple s = when_none (out-Simple s).sign (when_empty (out-Simple s).more (bare_term (out-Simple s).first))

-- an expression's factor, if that is all
abbrev pub bare : Expression → Option Factor
bare e = when_none (out-Expression e).right (bare_simple (out-Expression e).left)

abbrev pub access_in : {A B C D E F G H I J K L M N : Type 0} → Factor-F A B C D E F G H I J K L M N → Option E
access_in (Factor-F.Access a) = Some a
access_in _ = None

abbrev pub when_plain : {A B : Type 0} → List A → B → Option B
when_plain [] o = Some o
when_plain (x ∷ xs) o = None

abbrev pub as_identifier : Expression → Option (List ℕ)
as_identifier e =
    when_some (bare e) (λ f.
    when_some (access_in (out-Factor f)) (λ a.
    when_plain (out-Access a).selectors (out-Access a).name))

abbrev pub field_in : {A B C D E F G H I J K L M N : Type 0} → Selector-F A B C D E F G H I J K L M N → Option (List ℕ)
field_in (Selector-F.Field line name) = Some name
field_in _ = None

abbrev pub arguments_in :
    {A B C D E F G H I J K L M N : Type 0} → Selector-F A B C D E F G H I J K L M N → Option (List G)
arguments_in (Selector-F.Arguments line arguments) = Some arguments
arguments_in _ = None

-- an expression, if an argument is one
abbrev pub plain_argument : Argument → Option Expression
plain_argument a = alone (out-Argument a).value (out-Argument a).width

-- the expressions, if no argument has a width
abbrev pub all_plain : List Argument → Option (List Expression)
all_plain xs = all_of plain_argument xs

abbrev pub named_last : QualifiedName → List Selector → Option (QualifiedName × List Expression)
named_last q [] = Some (q, [])
named_last q (s ∷ []) = when_some (arguments_in (out-Selector s)) (λ xs. when_some (all_plain xs) (λ es. Some (q, es)))
named_last q (s ∷ u ∷ more) = None

abbrev pub named_by :
    ℕ → List ℕ → Selector → List Selector → Option (List ℕ) → Option (QualifiedName × List Expression)
named_by at n s more None = named_last (qualified_node at n None) (s ∷ more)
named_by at n s more (Some m) = named_last (qualified_node at n (Some m)) more

abbrev pub named_from : ℕ → List ℕ → List Selector → Option (QualifiedName × List Expression)
named_from at n [] = Some (qualified_node at n None, [])
named_from at n (s ∷ more) = named_by at n s more (field_in (out-Selector s))

-- `name [ "(" expr { "," expr } ")" ]`, read of an expression
abbrev pub as_named : Expression → Option (QualifiedName × List Expression)
as_named e =
    when_some (bare e) (λ f.
    when_some (access_in (out-Factor f)) (λ a.
    named_from (out-Access a).line (out-Access a).name (out-Access a).selectors))
