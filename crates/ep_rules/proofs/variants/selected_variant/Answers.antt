use Rattle.std.proofs.Common.{◌≡◌, ◌∙◌, Some, None, length, ap, sym, w64}
use Rattle.std.proofs.lemmas.Int.{to_z-of_z}
use Rattle.ep_rules.specs.VariantSteps as spec
use Rattle.ep_rules.proofs.variants.selected_variant.Goals as goal

pub returns-in-Some : goal.returns-in-Some
returns-in-Some c =
    let number = to_z-of_z w64 c.args.value c.ranges.value in
    let found : spec.labelled_variant c.args.selection.now.labels c.args.value ≡ Some c.in-Some.number =
    ap (λ ls. spec.labelled_variant ls c.args.value) (sym c.items-labels.ensures) ∙ (ap (spec.labelled_variant c.items-labels.result.now) (sym number) ∙ (sym c.labelled_variant.ensures ∙ c.in-Some.is)) in
    sym (ap (spec.variant_if c.args.selection.now) found)

pub returns-in-None : goal.returns-in-None
returns-in-None c =
    let number = to_z-of_z w64 c.args.value c.ranges.value in
    let found : spec.labelled_variant c.args.selection.now.labels c.args.value ≡ None =
    ap (λ ls. spec.labelled_variant ls c.args.value) (sym c.items-labels.ensures) ∙ (ap (spec.labelled_variant c.items-labels.result.now) (sym number) ∙ (sym c.labelled_variant.ensures ∙ c.in-None.is)) in
    ap length c.items-labels.ensures ∙ sym (ap (spec.variant_if c.args.selection.now) found)
