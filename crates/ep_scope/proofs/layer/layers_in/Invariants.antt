use Rattle.std.proofs.Common.{◌≡◌, take}
use Rattle.ep_scope.specs.Layers.{layers_in}
use Rattle.ep_scope.proofs.layer.layers_in.Given as goal

abbrev pub invariant-loop-other : goal.invariant-loop-other
invariant-loop-other l = l.all ≡ layers_in l.open (take l.other-index l.around)
