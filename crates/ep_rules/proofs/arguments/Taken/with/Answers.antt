use Rattle.std.specs.Option.{option_map}
use Rattle.ep_typed.specs.Viewed.{actual_of}
use Rattle.ep_rules.specs.Answers.{taken_of, typed_of}
use Rattle.ep_rules.specs.Arguments.{actual_taken, argument_taken, joined, one_taken}
use Rattle.ep_rules.specs.Judgements.{Accepts}
use Rattle.ep_rules.proofs.public.Breaking.{part-exit, when_accepted-part}
use Rattle.ep_rules.proofs.arguments.Taken.with.Goals as goal

pub returns-in_err-actual : goal.returns-in_err-actual
returns-in_err-actual c =
    let v = typed_of c.args.value in
    part-exit (option_map actual_of) taken_of c.from_residual.result c.in_err-actual.field-0.0 (actual_taken c.args.parameter.now.mode c.args.parameter.now v) _ c.from_residual.ensures.1
    (λ n h. when_accepted-part n (λ x. Accepts (joined (taken_of c.args.self) x)) (argument_taken c.args.parameter.now v) (when_accepted-part n (λ actual. Accepts (one_taken v.depth actual)) (actual_taken c.args.parameter.now.mode c.args.parameter.now v) h))
    c.in_err-actual.ensures
