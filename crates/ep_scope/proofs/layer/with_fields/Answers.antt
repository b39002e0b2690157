use Rattle.std.proofs.Common.{refl, arith, ap, sym, ◌∙◌}
use Rattle.ep_scope.proofs.Layers.{fields_all, fields_before}
use Rattle.ep_scope.proofs.layer.with_fields.Goals as goal

pub loop-field-preserved : goal.loop-field-preserved
loop-field-preserved c =
    fields_before c.args.places.entries c.loop-field.places.entries c.insert.new.self.entries c.args.number c.loop-field.field c.index-fields-field.result c.args.fields.now
    _ c.in_ok-key.key c.loop-field-test.true c.loop-field.auto.field c.index-fields-field.is (λ k. refl) (c.in_ok-key.ensures.items ∙ c.bytes.ensures.bytes ∙ ap (λ f. f.name) (sym c.index-fields-field.is))
    c.loop-field.invariant c.in_ok-insert.ensures.entries

pub returns : goal.returns
returns c =
    fields_all c.args.places.entries c.args.number c.loop-field.field c.args.fields.now c.loop-field.places.entries
    (omega (arith, c.loop-field-test.false)) c.loop-field.invariant
