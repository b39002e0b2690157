use Rattle.std.proofs.Common.{drop}
use Rattle.ep_scope.proofs.Layers.{HasFieldsFrom}
use Rattle.ep_scope.proofs.layer.with_fields.Given as goal

abbrev pub invariant-loop-field : goal.invariant-loop-field
invariant-loop-field l = HasFieldsFrom l.fn.places.entries l.number l.field (drop l.field l.fields) l.places.entries
