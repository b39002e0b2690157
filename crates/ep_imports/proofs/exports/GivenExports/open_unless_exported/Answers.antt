use Rattle.std.proofs.Common.{◌≡◌, true, false, None, Some, ◌∷◌, ◌∙◌, is_some, map, subst, sym, ap}
use Rattle.ep_interface.specs.declared.interface.Interface.{Interface}
use Rattle.ep_imports.specs.Imports.{AnswersSole}
use Rattle.ep_imports.specs.Offers.{offered_from, sole}
use Rattle.ep_imports.specs.Required.{offered_in}
use Rattle.ep_imports.specs.Tables.{front_of}
use Rattle.ep_imports.proofs.Offering.{none_beside, one_beside}
use Rattle.ep_imports.proofs.exports.GivenExports.open_unless_exported.Goals as goal

pub returns-then-is_exported : goal.returns-then-is_exported
returns-then-is_exported c =
    let there : is_some (front_of (offered_from 0 (map (λ (i : Interface). i.exports) c.args.self.now) c.args.spec.now.interface)) ≡ true =
    rw (← c.self.view_is, ← c.bytes.ensures.bytes) (ap is_some (sym (c.self.invariant.firsts c.bytes.result.now)) ∙ sym c.has-is_exported.ensures ∙ c.if-is_exported.true) in
    subst (λ o. AnswersSole c.args.spec.now o c.no_interface.result)
    (none_beside (offered_in c.args.required.now) (offered_from 0 (map (λ (i : Interface). i.exports) c.args.self.now) c.args.spec.now.interface) there) c.no_interface.ensures

pub returns-else-is_exported : goal.returns-else-is_exported
returns-else-is_exported c =
    let there : is_some (front_of (offered_from 0 (map (λ (i : Interface). i.exports) c.args.self.now) c.args.spec.now.interface)) ≡ false =
    rw (← c.self.view_is, ← c.bytes.ensures.bytes) (ap is_some (sym (c.self.invariant.firsts c.bytes.result.now)) ∙ sym c.has-is_exported.ensures ∙ c.if-is_exported.false) in
    subst (λ o. AnswersSole c.args.spec.now o c.open_required.result)
    (one_beside (offered_in c.args.required.now) (offered_from 0 (map (λ (i : Interface). i.exports) c.args.self.now) c.args.spec.now.interface) there) c.open_required.ensures
