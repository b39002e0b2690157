use Rattle.ep_imports.proofs.Finding.{key_added}
use Rattle.ep_imports.proofs.names.Texts.add.Goals as goal

pub returns : goal.returns
returns c =
    key_added c.in_ok-key.key c.self.inside.keys.keys c.insert.new.self.keys c.args.self.now c.args.text.now
    c.self.view_is c.in_ok-key.ensures.items c.in_ok-insert.ensures.keys
