use Rattle.std.proofs.Common.{◌≡◌, drop}
use Rattle.ep_scope.specs.Layers.{layers_field}
use Rattle.ep_scope.proofs.layer.field_around.Given as goal

abbrev pub invariant-loop-layer : goal.invariant-loop-layer
invariant-loop-layer l = layers_field (drop l.layer-index l.around) l.name ≡ layers_field l.around l.name
