-- What the operators on sets give (ISO 10206, 6.8.3.4 and 6.8.3.5).
use Rattle.std.specs.Prelude.{not}
use Rattle.ep_values.specs.Operations.{ordinal_of}
use Rattle.ep_values.specs.Printing.{Result, Number, Members, number_of, members_of}
use Rattle.ep_values.specs.Sets.{union, difference, intersection, symmetric_difference, is_same_set, is_subset}
use Rattle.ep_values.specs.Sets.{is_member}
use Rattle.ep_values.specs.declared.operations.SetOperation.{SetOperation}
use Rattle.ep_values.specs.declared.operations.SetOperation.TheVariants as set

abbrev pub set_answer : SetOperation → Result → Result → Result
set_answer set.Union a b = Members (union (members_of a) (members_of b))
set_answer set.Difference a b = Members (difference (members_of a) (members_of b))
set_answer set.Intersection a b = Members (intersection (members_of a) (members_of b))
set_answer set.SymmetricDifference a b = Members (symmetric_difference (members_of a) (members_of b))
set_answer set.Equal a b = Number (ordinal_of (is_same_set (members_of a) (members_of b)))
set_answer set.Unequal a b = Number (ordinal_of (not (is_same_set (members_of a) (members_of b))))
set_answer set.Subset a b = Number (ordinal_of (is_subset (members_of a) (members_of b)))
set_answer set.Superset a b = Number (ordinal_of (is_subset (members_of b) (members_of a)))
set_answer set.In a b = Number (ordinal_of (is_member (number_of a) (members_of b)))
