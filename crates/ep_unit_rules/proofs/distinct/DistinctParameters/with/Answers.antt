use Rattle.std.proofs.Common.{ap, ◌∙◌}
use Rattle.std.specs.List.{list_any}
use Rattle.std.specs.Str.{bytes_eq}
use Rattle.ep_unit_rules.specs.Formals.{is_parameter}
use Rattle.ep_unit_rules.proofs.FoundNames.{found_parameter}
use Rattle.ep_unit_rules.proofs.distinct.DistinctParameters.with.Goals as goal

pub with-requires : goal.with-requires
with-requires c =
    ap (list_any (bytes_eq c.args.parameter.name)) c.self.invariant
    ∙ (found_parameter c.args.parameter.name c.self.inside.parameters ∙ (ap (is_parameter c.args.parameter.name) c.self.view_is ∙ c.requires))
