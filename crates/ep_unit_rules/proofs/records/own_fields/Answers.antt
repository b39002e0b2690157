use Rattle.std.proofs.Common.{◌≡◌, ◌+◌, [], ◌∷◌, ◌++◌, drop, map, ap, ◌∙◌}
use Rattle.ep_unit_rules.specs.Answers.{field_in}
use Rattle.ep_unit_rules.specs.Records.{own_fields}
use Rattle.ep_unit_rules.proofs.OwnFields.{next_own, own_field}
use Rattle.ep_unit_rules.proofs.records.own_fields.Goals as goal

pub loop-place-preserved : goal.loop-place-preserved
loop-place-preserved c =
    let pushed : c.push.new.self ≡ c.loop-place.all ++ own_field c.loop-place.place (field_in c.index-fields-place.result) ∷ [] = cc (c.in_ok-push.ensures.ok, c.in_ok-name.ensures, c.in_ok-number.ensures, c.new.ensures) in
    ap (λ l. l ++ own_fields (c.loop-place.place + 1) (map field_in (drop (c.loop-place.place + 1) c.args.fields.now))) pushed
    ∙ (next_own c.args.fields.now c.loop-place.place c.index-fields-place.result c.loop-place-test.true c.index-fields-place.is c.loop-place.all ∙ c.loop-place.invariant)
