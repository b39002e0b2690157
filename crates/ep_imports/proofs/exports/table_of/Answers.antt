use Rattle.std.proofs.Common.{◌≡◌, ◌≤◌, [], ◌∷◌, ◌++◌, map, take, length, subst, sym, arith}
use Rattle.std.proofs.lemmas.List.{take_all}
use Rattle.ep_interface.specs.declared.interface.Interface.{Interface}
use Rattle.ep_imports.specs.Tables.{IsTable}
use Rattle.ep_imports.proofs.Offering.{counted, row_taken}
use Rattle.ep_imports.proofs.exports.table_of.Goals as goal

pub loop-place-init : goal.loop-place-init
loop-place-init c = c.new-table.ensures

pub loop-place-preserved : goal.loop-place-preserved
loop-place-preserved c =
    let within : c.loop-place.place ≤ length c.args.headings.now = omega (arith, c.loop-place-test.true) in
    let exported : c.items.result.now ≡ c.index-headings-place.result.exports = first_of (cc, grind arith) in
    subst (IsTable c.add_heading.new.self.offers c.add_heading.new.self.doubled)
    (sym (row_taken c.args.headings.now c.loop-place.place c.index-headings-place.result c.loop-place-test.true c.index-headings-place.is))
    (subst (λ es. IsTable c.add_heading.new.self.offers c.add_heading.new.self.doubled (map (λ (i : Interface). i.exports) (take c.loop-place.place c.args.headings.now) ++ es ∷ [])) exported
    (c.in_ok-add_heading.ensures (map (λ (i : Interface). i.exports) (take c.loop-place.place c.args.headings.now)) (counted c.args.headings.now c.loop-place.place within) c.loop-place.invariant))

pub returns : goal.returns
returns c =
    subst (λ hs. IsTable c.loop-place.table.offers c.loop-place.table.doubled (map (λ (i : Interface). i.exports) hs))
    (take_all c.loop-place.place c.args.headings.now c.loop-place-test.false) c.loop-place.invariant
