use Rattle.std.proofs.Common.{ap, sym, ◌∙◌, ◌++◌, subst, take}
use Rattle.std.specs.List.{list_any}
use Rattle.std.specs.Str.{bytes_eq}
use Rattle.std.proofs.lemmas.List.{append-nil, take_all}
use Rattle.ep_imports.specs.Parts.{HaveSame}
use Rattle.ep_imports.specs.Sequences.{spellings_of}
use Rattle.ep_imports.proofs.Sequencing.{spelled_more}
use Rattle.ep_imports.proofs.imports.spell.Goals as goal

pub loop-one-init : goal.loop-one-init
loop-one-init c = λ text. ap (list_any (bytes_eq text)) (sym (append-nil c.args.spelled.now))

pub loop-one-preserved : goal.loop-one-preserved
loop-one-preserved c =
    spelled_more c.args.interface.now c.args.qualified c.args.brought.now c.loop-one.one-index c.one-item.result c.args.spelled.now c.loop-one.spelled c.spell_name.new.spelled
    c.loop-one-test.true c.one-item.is c.in_ok-spell_name.ensures c.loop-one.invariant

pub returns : goal.returns
returns c =
    subst (λ bs. HaveSame c.loop-one.spelled (c.args.spelled.now ++ spellings_of c.args.interface.now c.args.qualified bs))
    (take_all c.loop-one.one-index c.args.brought.now c.loop-one-test.false) c.loop-one.invariant
