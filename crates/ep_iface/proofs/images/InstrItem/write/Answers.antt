use Rattle.std.proofs.Common.{[], ◌∷◌}
use Rattle.ep_fields.specs.Fields.{integer, number}
use Rattle.ep_iface.proofs.Rows.{four, on_ok, wrote}
use Rattle.ep_iface.proofs.images.InstrItem.write.Goals as goal

pub returns : goal.returns
returns c =
    let i = c.args.self.now in
    on_ok c.u32-2.result
    (four c.args.writer.now (i.op ∷ []) (integer i.a) (number i.b) (number i.line) _ _ _ _ c.in_ok-u8.ensures.ok (wrote _ _ i.a c.requires.a c.in_ok-i64.ensures.ok) c.in_ok-u32.ensures.ok)
    c.u32-2.ensures.ok
