use Rattle.std.proofs.Common.{◌≡◌, drop, ◌∙◌}
use Rattle.ep_unit_rules.proofs.TakenLabels.{stands_ended}
use Rattle.ep_unit_rules.proofs.labels.Labels.end_variant.Goals as goal

pub invariant_of-self-2 : goal.invariant_of-self-2
invariant_of-self-2 c =
    let own : c.in_ok-kept.kept ≡ drop c.self.inside.start c.self.inside.taken = c.in_ok-kept.ensures ∙ c.behind-own.ensures in
    rw (c.in_ok-push.ensures.ok, own, c.ranges-3.ensures) (stands_ended c.self.invariant)
