use Rattle.std.proofs.Common.{length, ap, arith}
use Rattle.ep_drive.proofs.Sources.{in_order-length}
use Rattle.ep_drive.proofs.source.components_of.Goals as goal

pub components-requires : goal.components-requires
components-requires c = omega (arith, in_order-length 0 c.in_ok-found.found.items (length c.args.text.now) c.in_ok-found.ensures.order, ap length c.as_slice.ensures.value, c.requires)
