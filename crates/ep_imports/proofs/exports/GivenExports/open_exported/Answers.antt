use Rattle.std.proofs.Common.{◌≡◌, None, Some, map, subst}
use Rattle.ep_interface.specs.declared.interface.Interface.{Interface}
use Rattle.ep_imports.specs.Imports.{AnswersSole}
use Rattle.ep_imports.specs.Offers.{offered_from, sole}
use Rattle.ep_imports.proofs.exports.GivenExports.open_exported.Goals as goal

pub returns-in-None : goal.returns-in-None
returns-in-None c =
    let none : None ≡ sole (offered_from 0 (map (λ (i : Interface). i.exports) c.args.self.now) c.args.spec.now.interface) =
    rw (← c.self.view_is, ← c.bytes.ensures.bytes) (c.in-None.ensures _ c.self.invariant) in
    subst (λ o. AnswersSole c.args.spec.now o c.no_interface.result) none c.no_interface.ensures

pub returns-in-Some : goal.returns-in-Some
returns-in-Some c =
    let one : Some c.in-Some.offer.now ≡ sole (offered_from 0 (map (λ (i : Interface). i.exports) c.args.self.now) c.args.spec.now.interface) =
    rw (← c.self.view_is, ← c.bytes.ensures.bytes) (c.in-Some.ensures _ c.self.invariant) in
    subst (λ o. AnswersSole c.args.spec.now o c.open_offer.result) one c.open_offer.ensures
