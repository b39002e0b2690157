use Rattle.ep_gen_code.specs.Instructions.{reference}
use Rattle.ep_gen_code.specs.Keys.{same}
use Rattle.ep_gen_code.proofs.Keyed.{found}
use Rattle.ep_gen_code.proofs.SameReferences.{same_decides}
use Rattle.ep_gen_code.proofs.tables.ReferenceTable.find.Goals as goal

pub returns : goal.returns
returns c =
    let unit = c.args.unit.now in
    let number = c.args.number in
    rw (← c.self.view_is)
    (found (λ k. k.reference) (reference unit number) (λ k. same (unit, number) (k.reference.unit, k.reference.number)) (λ k. same_decides unit number k.reference) c.self.inside.all.keys c.get_index_of.result c.get_index_of.ensures.index)
