use Rattle.std.proofs.Common.{◌≡◌, [], sym, ap, ◌∙◌, drop, w64}
use Rattle.std.proofs.lemmas.Int.{to_z-of_z}
use Rattle.ep_rules.specs.ConstantAccesses.{has_index}
use Rattle.ep_unit_rules.proofs.TakenLabels.{labelled_before, no_range}
use Rattle.ep_unit_rules.proofs.labels.Labels.has.Goals as goal

pub returns-then-is_empty : goal.returns-then-is_empty
returns-then-is_empty c =
    let none : drop c.self.inside.start c.self.inside.taken ≡ [] = sym c.behind.ensures ∙ no_range c.behind.result.now (sym c.is_empty.ensures ∙ c.if-is_empty.true) in
    c.has.ensures ∙ (ap (has_index c.self.inside.taken) (to_z-of_z w64 c.args.value c.ranges.value)
    ∙ rw (← c.self.view_is) (labelled_before c.self.invariant c.args.value none))
