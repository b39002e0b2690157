use Rattle.std.proofs.Common.{ap, ◌∙◌}
use Rattle.std.specs.List.{list_any}
use Rattle.std.specs.Str.{bytes_eq}
use Rattle.ep_unit_rules.specs.Formals.{is_parameter}
use Rattle.ep_unit_rules.proofs.FoundNames.{found_parameter}
use Rattle.ep_unit_rules.proofs.distinct.DistinctParameters.has.Goals as goal

pub returns : goal.returns
returns c =
    c.has.ensures ∙ (ap (list_any (bytes_eq c.args.name.now)) c.self.invariant
    ∙ (found_parameter c.args.name.now c.self.inside.parameters ∙ ap (is_parameter c.args.name.now) c.self.view_is))
