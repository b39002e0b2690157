use Rattle.std.proofs.Common.{[], ◌∷◌, ◌++◌, subst, sym, ap, ◌∙◌, refl}
use Rattle.std.proofs.lemmas.Slice.Eq.{bytes_eq-Decides}
use Rattle.std.specs.Str.{bytes_eq}
use Rattle.ep_gen_code.specs.Growth.{IsNowhere}
use Rattle.ep_gen_code.specs.Tables.{texts_of}
use Rattle.ep_gen_code.proofs.Keyed.{pushed}
use Rattle.ep_gen_code.proofs.tables.TextTable.push.Goals as goal

pub returns-clause-ok : goal.returns-clause-ok
returns-clause-ok c =
    let keys = c.self.inside.all.keys in
    let key = c.in_ok-text.text in
    let new : IsNowhere (texts_of keys) key.items =
    subst (λ l. IsNowhere l key.items) (sym c.self.view_is) (subst (λ x. IsNowhere c.args.self.now x) (sym c.in_ok-text.ensures.items) c.requires) in
    pushed (λ v. v.items) key.items (λ v. bytes_eq key.items v.items) (λ v. bytes_eq-Decides key.items v.items) keys c.insert.new.self.keys key refl new c.in_ok-insert.ensures.keys
    ∙ ap (λ l. l ++ key.items ∷ []) c.self.view_is
    ∙ ap (λ x. c.args.self.now ++ x ∷ []) c.in_ok-text.ensures.items
