use Rattle.std.proofs.Common.{◌≡◌, ◌∙◌, ap, sym, w64, of_z, to_z, rules}
use Rattle.std.specs.Prelude.{nat_eq}
use Rattle.ep_rules.specs.KnownFields as fields
use Rattle.ep_rules.specs.VariantSteps.{selected_variant}
use Rattle.ep_rules.proofs.constant_accesses.selects.Goals as goal

pub returns-in-Some : goal.returns-in-Some
returns-in-Some c =
    let value = c.in-Some.value in
    let selection = c.args.step.now.selection in
    let number : to_z w64 (of_z w64 value) ≡ value = search rules in
    let chosen : c.selected_variant.result ≡ selected_variant selection value
    = c.selected_variant.ensures ∙ (ap (selected_variant c.get.result.now) number ∙ ap (λ s. selected_variant s value) c.get.ensures) in
    ap (λ n. nat_eq n c.from.result) chosen ∙ (ap (nat_eq (selected_variant selection value)) c.from.ensures ∙ ap (fields.selects c.args.step.now) (sym c.in-Some.is))
