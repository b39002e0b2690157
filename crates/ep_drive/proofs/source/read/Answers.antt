use Rattle.std.proofs.Common.{List, subst, sym, ◌∙◌}
use Rattle.ep_tree.specs.declared.component.Component.{Component}
use Rattle.ep_grammar.specs.Rules.{Grammar}
use Rattle.ep_grammar.specs.declared.stop.TheConstants.{MAX_NESTING}
use Rattle.ep_drive.proofs.Sources.{not_empty}
use Rattle.ep_drive.proofs.source.read.Goals as goal

pub program_of-requires : goal.program_of-requires
program_of-requires c = λ none.
    let has = c.in_ok-found.ensures in
    not_empty MAX_NESTING has.tokens (subst (λ (cs : List Component). Grammar MAX_NESTING has.tokens cs) (sym c.as_slice.ensures.value ∙ none) has.derived)
