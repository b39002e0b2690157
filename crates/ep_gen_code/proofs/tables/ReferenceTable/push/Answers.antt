use Rattle.std.proofs.Common.{[], ◌∷◌, ◌++◌, subst, sym, ap, ◌∙◌, refl}
use Rattle.ep_gen_code.specs.Growth.{IsNowhere}
use Rattle.ep_gen_code.specs.Instructions.{reference}
use Rattle.ep_gen_code.specs.Tables.{references_of}
use Rattle.ep_gen_code.specs.Keys.{same}
use Rattle.ep_gen_code.specs.declared.keys.ReferenceKey.{ReferenceKey}
use Rattle.ep_gen_code.proofs.Keyed.{pushed}
use Rattle.ep_gen_code.proofs.SameReferences.{same_decides}
use Rattle.ep_gen_code.proofs.tables.ReferenceTable.push.Goals as goal

pub returns-clause-ok : goal.returns-clause-ok
returns-clause-ok c =
    let keys = c.self.inside.all.keys in
    let unit = c.in_ok-unit.unit in
    let number = c.args.number in
    let key : ReferenceKey = record { reference = reference unit number } in
    let new : IsNowhere (references_of keys) (reference unit number) =
    subst (λ l. IsNowhere l (reference unit number)) (sym c.self.view_is) (subst (λ u. IsNowhere c.args.self.now (reference u number)) (sym c.in_ok-unit.ensures) c.requires) in
    pushed (λ k. k.reference) (reference unit number) (λ k. same (unit, number) (k.reference.unit, k.reference.number)) (λ k. same_decides unit number k.reference) keys c.insert.new.self.keys key refl new c.in_ok-insert.ensures.keys
    ∙ ap (λ l. l ++ reference unit number ∷ []) c.self.view_is
    ∙ ap (λ u. c.args.self.now ++ reference u number ∷ []) c.in_ok-unit.ensures
