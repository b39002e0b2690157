use Rattle.std.proofs.lemmas.Slice.Eq.{bytes_eq-Decides}
use Rattle.std.specs.Str.{bytes_eq}
use Rattle.ep_gen_code.proofs.Keyed.{found}
use Rattle.ep_gen_code.proofs.tables.TextTable.find.Goals as goal

pub returns : goal.returns
returns c =
    let text = c.args.text.now in
    rw (← c.self.view_is)
    (found (λ v. v.items) text (λ v. bytes_eq text v.items) (λ v. bytes_eq-Decides text v.items) c.self.inside.all.keys c.get_index_of.result c.get_index_of.ensures.index)
