use Rattle.std.proofs.Common.{ap, sym, ◌∙◌}
use Rattle.ep_imports.specs.Found.{found}
use Rattle.ep_imports.proofs.Finding.{found-append, found-there}
use Rattle.ep_imports.proofs.names.Named.add_first.Goals as goal

pub returns-in_ok-add-in-None : goal.returns-in_ok-add-in-None
returns-in_ok-add-in-None g c = λ other. ap (λ es. found es other) c.in_ok-add-in-None.ensures ∙ found-append c.args.name.now c.args.value c.args.self.now other

pub returns-in-Some : goal.returns-in-Some
returns-in-Some g c = λ other. found-there c.args.name.now c.args.value c.args.self.now _ other (sym c.in-Some.ensures)
