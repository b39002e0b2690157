use Rattle.std.proofs.Common.{◌≡◌, ◌∙◌, ◌++◌, ◌∷◌, [], Some, ap, sym, w64, of_z, to_z, rules}
use Rattle.ep_check_expr.specs.StructuredValues as spec
use Rattle.ep_rules.specs.VariantSteps as variants
use Rattle.ep_check_expr.proofs.chosen.chosen_within.Goals as goal

pub returns : goal.returns
returns c =
    let number : to_z w64 (of_z w64 c.in-Some.value) ≡ c.in-Some.value = search rules in
    ap Some (c.in_ok-chosen.ensures ∙ ap (λ n. c.args.within.now ++ n ∷ []) (c.selected_variant-variant.ensures ∙ (ap (variants.selected_variant c.get.result.now) number ∙ ap (λ s. variants.selected_variant s c.in-Some.value) c.get.ensures)))
    ∙ ap (spec.chosen_within c.args.within.now c.args.tag.now) (sym c.in-Some.is)
