-- What the operations on two sets make of them.
use Rattle.std.specs.Prelude.{ℕ, ℤ, pos, negsuc, ltb, List, Option, Some, None, Bool, false, cond, ◌&&◌, ◌||◌, not}
use Rattle.ep_values.specs.Sets.{difference, has, intersection, member_limit, members, symmetric_difference, union}
use Rattle.ep_values.specs.declared.operations.SetOperation.{SetOperation}
use Rattle.ep_values.specs.declared.operations.SetOperation.TheVariants as set

-- whether what is made of two sets has what the first and the second have or lack so
abbrev pub takes : SetOperation → Bool → Bool → Bool
takes set.Union x y = x || y
takes set.Difference x y = x && not y
takes set.Intersection x y = x && y
takes set.SymmetricDifference x y = x && not y || y && not x
takes _ x y = false

-- whether an ordinal is one of those
abbrev pub takes_ordinal : SetOperation → List ℕ → List ℕ → ℕ → Bool
takes_ordinal operation ms ns n = takes operation (has n ms) (has n ns)

-- the set that is made; a comparison makes none
abbrev pub combination : SetOperation → List ℕ → List ℕ → List ℕ
combination set.Union ms ns = union ms ns
combination set.Difference ms ns = difference ms ns
combination set.Intersection ms ns = intersection ms ns
combination set.SymmetricDifference ms ns = symmetric_difference ms ns
combination _ ms ns = members (λ n. false)

-- the ordinal of a number that may be a member
abbrev pub ordinal_at : ℤ → Option ℕ
ordinal_at (pos n) = cond (ltb n member_limit) (Some n) None
ordinal_at (negsuc n) = None
