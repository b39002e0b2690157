use Rattle.std.proofs.Common.{◌≡◌, [], rules, SFits, w64, to_z, of_z}
use Rattle.std.proofs.lemmas.Int.{to_z-of_z}
use Rattle.ep_rules.proofs.Ends.{last_before, none_before}
use Rattle.ep_rules.proofs.apart.is_apart_from_ends.Goals as goal

pub returns-in-None : goal.returns-in-None
returns-in-None c =
    let fits : SFits w64 c.args.range.high = search rules in
    let none : c.range.result ≡ [] = search rules in
    record {
      told = none_before c.args.ends.now c.args.range (to_z w64 (of_z w64 c.args.range.high)) (to_z-of_z w64 c.args.range.high fits)
          (λ q r. (c.range.ensures.in_range tt).5 none q r);
    }

pub returns-in-Some : goal.returns-in-Some
returns-in-Some c =
    let until : SFits w64 c.args.range.high = search rules in
    let from : SFits w64 c.args.range.low = search rules in
    let last : SFits w64 c.in-Some.high.now = search rules in
    record {
      told = last_before c.args.ends.now c.args.range (to_z w64 (of_z w64 c.args.range.high)) c.in-Some.field-0-0.now c.in-Some.high.now
          (to_z w64 (of_z w64 c.in-Some.high.now)) (to_z w64 (of_z w64 c.args.range.low))
          (to_z-of_z w64 c.args.range.high until) (to_z-of_z w64 c.in-Some.high.now last) (to_z-of_z w64 c.args.range.low from)
          ((c.range.ensures.in_range tt).3 _ _ c.in-Some.ensures.steps) ((c.range.ensures.in_range tt).4 _ _ c.in-Some.ensures.steps);
    }
