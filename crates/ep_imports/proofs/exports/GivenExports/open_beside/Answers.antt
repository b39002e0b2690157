use Rattle.std.proofs.Common.{◌≡◌, ◌++◌, map, sym, subst, ap, ◌∙◌}
use Rattle.std.specs.Option.{option_map}
use Rattle.ep_interface.specs.declared.interface.Interface.{Interface}
use Rattle.ep_imports.specs.Imports.{AnswersSole}
use Rattle.ep_imports.specs.Offers.{as_list, offered_from, required_of, sole}
use Rattle.ep_imports.specs.Required.{offered_in}
use Rattle.ep_imports.proofs.exports.GivenExports.open_beside.Goals as goal

pub returns-in-None : goal.returns-in-None
returns-in-None c =
    subst (λ r. AnswersSole c.args.spec.now (sole (as_list r ++ offered_from 0 (map (λ (i : Interface). i.exports) c.args.self.now) c.args.spec.now.interface)) c.open_exported.result)
    (ap (option_map offered_in) (sym c.in-None.is) ∙ c.requires) c.open_exported.ensures

pub returns-in-Some : goal.returns-in-Some
returns-in-Some c =
    subst (λ r. AnswersSole c.args.spec.now (sole (as_list r ++ offered_from 0 (map (λ (i : Interface). i.exports) c.args.self.now) c.args.spec.now.interface)) c.open_unless_exported.result)
    (ap (option_map offered_in) (sym c.in-Some.is) ∙ c.requires) c.open_unless_exported.ensures
