use Rattle.std.proofs.Common.{◌≡◌, ◌∙◌, None, Some, ap, sym, refl}
use Rattle.std.specs.Option.{option_map}
use Rattle.ep_typed.specs.Viewed.{expr_of}
use Rattle.ep_expr_laws.proofs.Lawful.{expressions_are_sound}
use Rattle.ep_expr_laws.proofs.answers.expression_in_view.Goals as goal
use Rattle.ep_rules.specs.Answers.{typed_of}
use Rattle.ep_built.specs.Built.{expression_unbuilt}

pub returns-in-Some-into_form-clause-judged : goal.returns-in-Some-into_form-clause-judged
returns-in-Some-into_form-clause-judged c =
    let built : expression_unbuilt c.args.tree.now ≡ None = sym c.expression_unbuilt.ensures ∙ c.in_default.is in
    rw built
    (typed_of c.in-Ok.typed, c.in-Ok.ensures.typed, ap (option_map expr_of) (sym c.into_form.ensures ∙ c.in-Some-into_form.is ∙ ap Some (sym c.into_inner.ensures)))

pub returns-in-None-clause-judged : goal.returns-in-None-clause-judged
returns-in-None-clause-judged c =
    let built : expression_unbuilt c.args.tree.now ≡ None = sym c.expression_unbuilt.ensures ∙ c.in_default.is in
    rw built
    ((typed_of c.in-Ok.typed, c.in-Ok.ensures.typed, ap (option_map expr_of) (sym c.into_form.ensures ∙ c.in-None.is)), refl)

pub returns-in-Some-into_form-clause-valid : goal.returns-in-Some-into_form-clause-valid
returns-in-Some-into_form-clause-valid c = expressions_are_sound c.args.scopes.now c.args.tree.now
