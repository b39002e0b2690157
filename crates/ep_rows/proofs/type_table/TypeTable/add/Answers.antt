use Rattle.std.proofs.Common.{◌≡◌, ◌++◌, ◌∷◌, [], None, ap, ◌∙◌, rules}
use Rattle.ep_object.specs.Types.{entry_number}
use Rattle.ep_rows.proofs.TypeTables.{entered}
use Rattle.ep_rows.proofs.type_table.TypeTable.add.Goals as goal

pub returns-clause-added : goal.returns-clause-added
returns-clause-added c =
    let keys = c.self.inside.entries.keys in
    let same : keys ≡ c.args.self.now = search rules in
    let new : entry_number c.args.entry keys ≡ None = rw same c.requires in
    c.in_ok-insert.ensures.keys ∙ (entered keys c.args.entry new ∙ ap (λ ks. ks ++ c.args.entry ∷ []) same)
