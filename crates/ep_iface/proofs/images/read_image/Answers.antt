use Rattle.std.proofs.Common.{arith}
use Rattle.ep_iface.proofs.ImageLaws.{is_found, is_read}
use Rattle.ep_iface.proofs.images.read_image.Goals as goal

pub returns-clause-found : goal.returns-clause-found
returns-clause-found c =
    is_found c.laws_of_fields.ensures c.args.bytes.now c.read_whole.result (λ i. omega (arith, c.type_inv.bytes i)) c.read_whole.ensures

pub returns-clause-only : goal.returns-clause-only
returns-clause-only c = is_read c.laws_of_fields.ensures c.args.bytes.now c.read_whole.result c.read_whole.ensures
