use Rattle.ep_grammar.specs.declared.stop.TheConstants.{MAX_NESTING}
use Rattle.ep_marker.proofs.Forms.{marked-whole}
use Rattle.ep_marker.proofs.Texts.{memory-ends}
use Rattle.ep_marker.proofs.components.marks.Goals as goal

pub returns-in-None : goal.returns-in-None
returns-in-None c = marked-whole c.new-m.ensures.reader c.new-m.ensures.marks (c.components.ensures.marked c.new-m.ensures.stop c.in-None.is)

pub failure-requires : goal.failure-requires
failure-requires c =
    memory-ends MAX_NESTING c.args.tokens.now c.requires.0 c.new-m.ensures.reader c.new-m.ensures.stop c.components.ensures c.in-Some.stop c.in-Some.is c.requires.1
