use Rattle.std.proofs.Common.{◌++◌, List, ℕ, ap, ◌∙◌}
use Rattle.ep_fields.specs.Fields.{byte_field, number}
use Rattle.ep_fields.proofs.public.Readings.{short_name}
use Rattle.ep_iface.proofs.Rows.{four, on_ok}
use Rattle.ep_iface.proofs.images.ImageUnitItem.write.Goals as goal

pub bytes-requires-2 : goal.bytes-requires-2
bytes-requires-2 c = rw c.bytes.ensures.bytes (short_name c.args.self.now.name c.requires.name)

pub returns : goal.returns
returns c =
    let u = c.args.self.now in
    on_ok c.u32-3.result
    (four c.args.writer.now (byte_field u.name) (number u.slots) (number u.start) (number u.stop) _ _ _ _ (c.in_ok-bytes.ensures.ok ∙ ap (λ (name : List ℕ). c.args.writer.now ++ byte_field name) c.bytes.ensures.bytes) c.in_ok-u32.ensures.ok c.in_ok-u32-2.ensures.ok)
    c.u32-3.ensures.ok
