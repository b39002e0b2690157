use Rattle.std.proofs.Common.{◌≡◌, subst, sym}
use Rattle.std.specs.Bool.{MatchBool}
use Rattle.std.specs.Ordering.{is_le, nat_cmp}
use Rattle.std.specs.Cmp.Lexicographic.{slice_cmp}
use Rattle.ep_order.specs.Systems.{IsUpTo}
use Rattle.ep_linkable.proofs.Leasts.{up_or_back}
use Rattle.ep_linkable.proofs.register.is_up_to.Goals as goal

pub returns : goal.returns
returns c =
    let same : c.is_le.result ≡ is_le (slice_cmp nat_cmp c.args.first.now c.args.second.now) =
    cc (c.is_le.ensures, c.cmp.ensures, c.bytes.ensures.bytes, c.bytes-2.ensures.bytes) in
    subst (λ b. MatchBool b (IsUpTo c.args.first.now c.args.second.now) (IsUpTo c.args.second.now c.args.first.now))
    (sym same) (up_or_back c.args.first.now c.args.second.now)
