-- Names with arguments, read of selectors.
use Rattle.std.proofs.Common.{◌≡◌, ◌≢◌, ℕ, List, [], ◌∷◌, ◌++◌, Option, Some, None, refl, sym, ap, ◌∙◌}
use Rattle.ep_tree.specs.declared.operator.QualifiedName.{QualifiedName}
use Rattle.ep_tree.specs.declared.expression.Expression.{Expression}
use Rattle.ep_tree.specs.declared.expression.Selector.{Selector, out-Selector}
use Rattle.ep_tree.specs.Nodes.{qualified_node}
use Rattle.ep_tree.specs.Shapes.{named_last, named_by, named_from, field_in}

abbrev Named : Type 0
Named = Option (QualifiedName × List Expression)

last_of_many : (q : QualifiedName) (s : Selector) (xs : List Selector) (l : Selector) → named_last q (s ∷ (xs ++ l ∷ [])) ≡ (let o : Named = None in o)
last_of_many q s [] l = refl
last_of_many q s (x ∷ xs) l = refl

by_many : (at : ℕ) (n : List ℕ) (s : Selector) (xs : List Selector) (f l : Selector) (o : Option (List ℕ)) → named_by at n s ((xs ++ f ∷ []) ++ l ∷ []) o ≡ (let o : Named = None in o)
by_many at n s xs f l None = last_of_many (qualified_node at n None) s (xs ++ f ∷ []) l
by_many at n s [] f l (Some m) = last_of_many (qualified_node at n (Some m)) f [] l
by_many at n s (x ∷ xs) f l (Some m) = last_of_many (qualified_node at n (Some m)) x (xs ++ f ∷ []) l

from_many : (at : ℕ) (n : List ℕ) (xs : List Selector) (f l : Selector) → xs ≢ [] → named_from at n ((xs ++ f ∷ []) ++ l ∷ []) ≡ (let o : Named = None in o)
from_many at n [] f l e = absurd (e refl)
from_many at n (x ∷ xs) f l e = by_many at n x xs f l (field_in (out-Selector x))

pub too_many : (at : ℕ) (n : List ℕ) (old mid new : List Selector) (f l : Selector) → old ≡ mid ++ l ∷ [] → mid ≡ new ++ f ∷ [] → new ≢ [] → (let o : Named = None in o) ≡ named_from at n old
too_many at n old mid new f l p q e = sym (ap (named_from at n) (p ∙ ap (λ w. w ++ l ∷ []) q) ∙ from_many at n new f l e)

pub one_alone : (at : ℕ) (n : List ℕ) (old mid : List Selector) (l : Selector) (r : Named) → old ≡ mid ++ l ∷ [] → mid ≡ [] → r ≡ named_from at n (l ∷ []) → r ≡ named_from at n old
one_alone at n old mid l r p q e = e ∙ sym (ap (named_from at n) (p ∙ ap (λ w. w ++ l ∷ []) q))

pub two_alone : (at : ℕ) (n : List ℕ) (old mid new : List Selector) (f l : Selector) (r : Named) → old ≡ mid ++ l ∷ [] → mid ≡ new ++ f ∷ [] → new ≡ [] → r ≡ named_from at n (f ∷ l ∷ []) → r ≡ named_from at n old
two_alone at n old mid new f l r p q z e = e ∙ sym (ap (named_from at n) (p ∙ ap (λ w. w ++ l ∷ []) (q ∙ ap (λ w. w ++ f ∷ []) z)))

pub ruleset counted = (too_many, one_alone, two_alone)
