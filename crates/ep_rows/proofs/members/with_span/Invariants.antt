use Rattle.ep_rows.specs.Members.{is_in_span, Tells}
use Rattle.ep_rows.proofs.members.with_span.Given as goal

abbrev pub invariant-loop-member : goal.invariant-loop-member
invariant-loop-member l = Tells l.all (λ n. is_in_span l.lo l.member l.fn.set.words n)
