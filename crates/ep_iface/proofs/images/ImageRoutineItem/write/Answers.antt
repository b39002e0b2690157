use Rattle.ep_fields.specs.Fields.{number}
use Rattle.ep_iface.proofs.Rows.{four, on_ok}
use Rattle.ep_iface.proofs.images.ImageRoutineItem.write.Goals as goal

pub returns : goal.returns
returns c =
    let r = c.args.self.now in
    on_ok c.u32-4.result
    (four c.args.writer.now (number r.entry) (number r.unit) (number r.arguments) (number r.slots) _ _ _ _ c.in_ok-u32.ensures.ok c.in_ok-u32-2.ensures.ok c.in_ok-u32-3.ensures.ok)
    c.u32-4.ensures.ok
