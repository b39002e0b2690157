use Rattle.std.proofs.Common.{◌≡◌, drop}
use Rattle.std.specs.List.{list_all}
use Rattle.ep_built.specs.Built.{is_among, program_parameters}
use Rattle.ep_built.proofs.built.forms.program_is_built.Given as goal

abbrev pub invariant-loop-name : goal.invariant-loop-name
invariant-loop-name l = list_all (is_among program_parameters) (drop l.name-index l.p.parameters) ≡ list_all (is_among program_parameters) l.p.parameters
