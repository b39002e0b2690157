use Rattle.std.proofs.Common.{◌≡◌, ◌∙◌, Some, true, false, is_some, sym, subst}
use Rattle.std.specs.Ordering.{nat_cmp}
use Rattle.std.specs.Cmp.Lexicographic.{slice_cmp}
use Rattle.std.specs.BTreeMap.{UpdatesBy}
use Rattle.ep_link.proofs.Named.{at_bytes, first_inserted, first_stays}
use Rattle.ep_link.proofs.units.Units.add.Goals as goal

pub returns-then-contains_key : goal.returns-then-contains_key
returns-then-contains_key c =
    let m = c.args.self.now.placements in
    let there : is_some (at_bytes m c.args.name.now) ≡ true =
    subst (λ bs. is_some (at_bytes m bs) ≡ true) c.bytes.ensures.bytes
    (sym c.contains_key.ensures ∙ c.if-contains_key.true) in
    first_stays c.args.name.now m c.args.placement.now there

pub returns : goal.returns
returns c =
    let m = c.args.self.now.placements in
    let p = c.args.placement.now in
    let none : is_some (at_bytes m c.args.name.now) ≡ false =
    subst (λ bs. is_some (at_bytes m bs) ≡ false) c.bytes.ensures.bytes
    (sym c.contains_key.ensures ∙ c.if-contains_key.false) in
    let n = c.insert.new.self in
    let updates =
    subst
    (λ bs. UpdatesBy (λ x y. slice_cmp nat_cmp x.items y.items) (λ key. slice_cmp nat_cmp bs key.items) m n (Some p))
    (c.in_ok-key.ensures.items ∙ c.bytes-2.ensures.bytes) c.in_ok-insert.ensures.updates in
    first_inserted c.args.name.now m n p none updates
