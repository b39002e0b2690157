use Rattle.std.proofs.Common.{◌≡◌, true, int_le, int_lt, pos, to_z, of_z, rules, sym, ◌∙◌, w64}
use Rattle.std.proofs.lemmas.Int.{to_z-of_z}
use Rattle.ep_frames.specs.Members.{set_of}
use Rattle.ep_rows.proofs.SetWords.{least_below, least_beyond, least_within}
use Rattle.ep_rows.proofs.members.next.Goals as goal

pub returns-then-from-lt0 : goal.returns-then-from-lt0
returns-then-from-lt0 c =
    let below : int_lt c.args.from (pos 0) ≡ true = search rules in
    let shown : to_z w64 (of_z w64 c.least.result) ≡ c.least.result = search rules in
    shown ∙ (c.least.ensures ∙ least_below c.args.from (set_of c.args.set) below)

pub returns-in-Some : goal.returns-in-Some
returns-in-Some c =
    let from = to_z-of_z w64 c.args.from c.ranges.from in
    let found = rw from at c.index.ensures in
    let shown : to_z w64 (of_z w64 c.least-in-Some.result) ≡ c.least-in-Some.result = search rules in
    shown ∙ (c.least-in-Some.ensures ∙ least_within c.args.from c.in-Some.from (set_of c.args.set) (sym c.in-Some.is ∙ found))

pub returns-in-None : goal.returns-in-None
returns-in-None c =
    let from = to_z-of_z w64 c.args.from c.ranges.from in
    let found = rw from at c.index.ensures in
    let reached : int_le (pos 0) c.args.from ≡ true = search rules in
    least_beyond c.args.from c.args.set (sym c.in-None.is ∙ found) reached
