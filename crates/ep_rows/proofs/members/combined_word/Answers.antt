use Rattle.ep_rows.proofs.SetBits.{union_bit, difference_bit, intersection_bit, symmetric_bit}
use Rattle.ep_rows.proofs.members.combined_word.Goals as goal

pub returns-in-Union : goal.returns-in-Union
returns-in-Union c place = rw c.in-Union.is (union_bit c.args.x c.args.y place)

pub returns-in-Difference : goal.returns-in-Difference
returns-in-Difference c place = rw c.in-Difference.is (difference_bit c.args.x c.args.y place)

pub returns-in-Intersection : goal.returns-in-Intersection
returns-in-Intersection c place = rw c.in-Intersection.is (intersection_bit c.args.x c.args.y place)

pub returns-in-SymmetricDifference : goal.returns-in-SymmetricDifference
returns-in-SymmetricDifference c place = rw c.in-SymmetricDifference.is (symmetric_bit c.args.x c.args.y place)
