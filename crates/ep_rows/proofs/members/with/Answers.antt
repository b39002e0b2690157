use Rattle.std.proofs.Common.{◌≡◌, length, rules}
use Rattle.ep_rows.proofs.SetBits.{with_set, with_told}
use Rattle.ep_rows.proofs.members.with.Goals as goal

pub returns-clause-told : goal.returns-clause-told
returns-clause-told c n less =
    let all : length c.args.set.words ≡ 8 = search rules in
    with_told c.args.set.words c.args.member n all c.requires

pub returns-clause-set : goal.returns-clause-set
returns-clause-set c =
    let all : length c.args.set.words ≡ 8 = search rules in
    with_set c.args.set _ c.args.member (λ n less. with_told c.args.set.words c.args.member n all c.requires)
