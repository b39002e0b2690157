-- What is known of small constants that are sets or are made of them.
use Rattle.std.proofs.Common.{◌≡◌, ℕ, pos, negsuc, List, [], ◌∷◌, Some, refl, codes}
use Rattle.ep_values.specs.Sets.{members}
use Rattle.ep_typed.specs.Trees.{Card, Constant, Designator, Expr, OnSets, Range, Read, SetConstant, SetOf, Single, Variable, designators}
use Rattle.ep_values.specs.declared.operations.SetOperation.TheVariants as on_sets
use Rattle.ep_typed.specs.declared.value.Value.TheVariants as value
use Rattle.ep_scope.specs.declared.kind.Host.TheVariants as host
use Rattle.ep_scope.specs.declared.kind.Kind.{Kind}
use Rattle.ep_scope.specs.declared.kind.Kind.TheVariants as kind
use Rattle.ep_scope.specs.declared.rule.TheConstants as rule
use Rattle.ep_check_expr.specs.Constants.{constant_of, known}
use Rattle.ep_rules.specs.Folding.{folded}
use Rattle.ep_rules.specs.Judgements.{Breaks}
use Rattle.ep_rules.specs.declared.access.Access.TheVariants as access
use Rattle.ep_check_expr.specs.declared.constants.Purpose.TheVariants as purpose
use Rattle.ep_rules.specs.Operators.{boolean, integer}
use Rattle.ep_rules.specs.declared.folding.Folded.TheVariants.{Varies}

abbrev number : ℕ → Expr
number n = Constant (pos n)

abbrev one : ℕ → Designator
one n = Single (number n)

abbrev from_to : ℕ → ℕ → Designator
from_to low high = Range (number low) (number high)

abbrev set : List Designator → Expr
set ds = SetOf (designators ds)

abbrev integers : Kind
integers = kind.Set host.Integer

-- [5, 1, 3..4]
constant_set : constant_of [] purpose.Expression access.Value integers 1 (Some (set (one 5 ∷ one 1 ∷ from_to 3 4 ∷ []))) ≡ known integers (value.Set (1 ∷ 3 ∷ 4 ∷ 5 ∷ [])) 1
unfolding members
constant_set = refl

empty_set : constant_of [] purpose.Expression access.Value kind.EmptySet 1 (Some (set [])) ≡ known kind.EmptySet (value.Set []) 1
empty_set = refl

-- [1..5] - [2, 4] and the others
without_some : constant_of [] purpose.Expression access.Value integers 1 (Some (OnSets on_sets.Difference (set (from_to 1 5 ∷ [])) (set (one 2 ∷ one 4 ∷ [])))) ≡ known integers (value.Set (1 ∷ 3 ∷ 5 ∷ [])) 1
unfolding members
without_some = refl

of_one_alone : constant_of [] purpose.Expression access.Value integers 1 (Some (OnSets on_sets.SymmetricDifference (SetConstant (1 ∷ 2 ∷ [])) (SetConstant (2 ∷ 3 ∷ [])))) ≡ known integers (value.Set (1 ∷ 3 ∷ [])) 1
unfolding members
of_one_alone = refl

-- card([1, 2]) and 3 in [1..5]
counted_members : constant_of [] purpose.Expression access.Value integer 1 (Some (Card (set (one 1 ∷ one 2 ∷ [])))) ≡ known integer (value.Word (pos 2)) 1
unfolding members
counted_members = refl

looked_for : constant_of [] purpose.Expression access.Value boolean 1 (Some (OnSets on_sets.In (number 3) (set (from_to 1 5 ∷ [])))) ≡ known boolean (value.Word (pos 1)) 1
unfolding members
looked_for = refl

none_below : constant_of [] purpose.Expression access.Value boolean 1 (Some (OnSets on_sets.In (Constant (negsuc 0)) (SetConstant (0 ∷ [])))) ≡ known boolean (value.Word (pos 0)) 1
none_below = refl

compared_sets : constant_of [] purpose.Expression access.Value boolean 1 (Some (OnSets on_sets.Subset (SetConstant (2 ∷ [])) (SetConstant (1 ∷ 2 ∷ [])))) ≡ known boolean (value.Word (pos 1)) 1
compared_sets = refl

-- a member that may be none is an error, also of a range that is not empty
no_member_there : constant_of [] purpose.Expression access.Value integer 1 (Some (Card (set (one 256 ∷ [])))) ≡ Breaks (rule.CONSTANT ∷ [])
no_member_there = refl

past_the_last : constant_of [] purpose.Expression access.Value integers 1 (Some (set (from_to 250 256 ∷ []))) ≡ Breaks (rule.CONSTANT ∷ [])
past_the_last = refl

empty_range : constant_of [] purpose.Expression access.Value integers 1 (Some (set (from_to 999 256 ∷ []))) ≡ known integers (value.Set []) 1
unfolding members
empty_range = refl

-- a variable in it varies, whatever else is in it
varying_set : folded (Card (set (one 256 ∷ Single (Read (Variable (codes "p") 0)) ∷ []))) ≡ Varies
varying_set = refl
