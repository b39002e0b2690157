-- The arguments of a call that is built.
use Rattle.std.proofs.Common.{◌≡◌, Bool, true, false, List, [], ◌∷◌, map, Some, None, subst}
use Rattle.ep_built.specs.Built.{behind_arguments, call_unbuilt, first_in, in_arguments, lines_in, selector_arguments, selector_belonging, writes, written_unbuilt}
use Rattle.ep_built.specs.Built as built
use Rattle.ep_tree.specs.Shapes.{arguments_in}
use Rattle.ep_tree.specs.declared.expression.ComponentValue.TheOpen.{Selector-F}
use Rattle.ep_tree.specs.declared.expression.Access.{Access, out-Access}
use Rattle.ep_tree.specs.declared.expression.Argument.{Argument}
use Rattle.ep_tree.specs.declared.expression.Selector.{Selector, out-Selector}
use Rattle.ep_check_expr.proofs.public.Written.{all_written}
use Rattle.ep_stmt_rules.proofs.public.judged.Rounds.{first_built}
use Rattle.ep_stmt_rules.specs.Statements.{call_arguments}

in_layer : {A B C D E F G H I J K L M N : Type 0} (s : Selector-F A B C D E F G H I J K L M N) (arguments : List G) → arguments_in s ≡ Some arguments → selector_arguments s ≡ arguments
in_layer (Selector-F.Arguments line all) arguments h = cc
in_layer (Selector-F.Field line name) arguments h = cc
in_layer (Selector-F.Index line indexes) arguments h = cc
in_layer (Selector-F.Dereference line) arguments h = cc

-- the arguments of a call are those of the table of built forms
same_arguments : (selectors : List Selector) (arguments : List Argument) → call_arguments selectors ≡ Some arguments → built.call_arguments selectors ≡ arguments
same_arguments [] arguments h = cc
same_arguments (s ∷ []) arguments h = in_layer (out-Selector s) arguments h
same_arguments (s ∷ t ∷ more) arguments h = cc

by_form : (written : Bool) (arguments : List Argument) → in_arguments written arguments ≡ None → first_in (map written_unbuilt arguments) ≡ None
by_form true arguments h = h
by_form false arguments h = all_written arguments h

-- the arguments of a call are built as those that are written
pub written_arguments : (a : Access) (arguments : List Argument) → call_unbuilt a ≡ None → call_arguments (out-Access a).selectors ≡ Some arguments → first_in (map written_unbuilt arguments) ≡ None
written_arguments a arguments h is =
    by_form (writes (out-Access a).name) arguments
    (subst (λ xs. in_arguments (writes (out-Access a).name) xs ≡ None) (same_arguments (out-Access a).selectors arguments is) (first_built (in_arguments (writes (out-Access a).name) (built.call_arguments (out-Access a).selectors)) (lines_in (map selector_belonging (behind_arguments (out-Access a).selectors))) h))
