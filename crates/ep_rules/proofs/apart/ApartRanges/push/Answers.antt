use Rattle.std.proofs.Common.{◌≡◌, true, false, rules, is_err, int_lt, SFits, w64}
use Rattle.std.proofs.lemmas.Int.{to_z-of_z}
use Rattle.std.specs.List.{list_all}
use Rattle.ep_typed.specs.CaseRanges.{is_apart}
use Rattle.ep_rules.proofs.Ends.{found_again, found_more, on_err, on_ok}
use Rattle.ep_rules.proofs.apart.ApartRanges.push.Goals as goal

pub invariant_of-self-then-is_err : goal.invariant_of-self-then-is_err
invariant_of-self-then-is_err c =
    let failed : is_err c.insert.result ≡ true = search rules in
    found_again _ _ _ _ _ _ _ _ c.self.invariant (on_err c.insert.result _ failed c.insert.ensures.err) c.in_ok-push.ensures.ok c.pop.ensures

pub invariant_of-self-else-is_err : goal.invariant_of-self-else-is_err
invariant_of-self-else-is_err c =
    let begins : SFits w64 c.args.range.low = search rules in
    let ends : SFits w64 c.args.range.high = search rules in
    let low = to_z-of_z w64 c.args.range.low begins in
    let high = to_z-of_z w64 c.args.range.high ends in
    let not_empty : int_lt c.args.range.high c.args.range.low ≡ false = rw (← low, ← high) c.if-range.false in
    let apart : list_all (λ s. is_apart s c.args.range) c.self.inside.ranges ≡ true = rw c.self.view_is c.requires in
    let done : is_err c.insert.result ≡ false = search rules in
    found_more _ _ _ _ _ _ _ _ c.self.invariant apart not_empty low high (on_ok c.insert.result _ done c.insert.ensures.updates).0 c.in_ok-push.ensures.ok
