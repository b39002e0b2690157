use Rattle.std.proofs.Common.{◌≤◌, ◌↔◌, min, IsTrue, rules}
use Rattle.std.specs.List.{All}
use Rattle.ep_tree.specs.Nesting.{component_nesting}
use Rattle.ep_levels.proofs.Knot.{levels_decide}
use Rattle.ep_levels.proofs.nests_within.Goals as goal

pub returns-clause-exact : goal.returns-clause-exact
returns-clause-exact c = λ less ts m d.
    let h : IsTrue c.all.result ↔ All (λ x. min (component_nesting x) 4294967295 ≤ c.args.levels) c.args.components.now = search rules in
    levels_decide c.args.levels m 4294967295 ts c.args.components.now c.all.result less d h
