use Rattle.std.proofs.lemmas.List.Sorted.{Contains-permutation, IsPermutation-sym}
use Rattle.ep_order.proofs.public.Laws.{one_order, circle_unordered, same_order}
use Rattle.ep_order.proofs.laws.laws_of_activation.Goals as goal

pub returns-clause-one : goal.returns-clause-one
returns-clause-one c = one_order

pub returns-clause-circles : goal.returns-clause-circles
returns-clause-circles c = circle_unordered

pub returns-clause-lists : goal.returns-clause-lists
returns-clause-lists c = λ units others order h. same_order units others
    (λ unit. Contains-permutation units others unit h)
    (λ unit. Contains-permutation others units unit (IsPermutation-sym units others h)) order
