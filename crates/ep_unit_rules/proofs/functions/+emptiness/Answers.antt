use Rattle.std.proofs.Common.{◌∙◌, ap, sym}
use Rattle.ep_typed.specs.Viewed.{stmt_of}
use Rattle.ep_unit_rules.specs.Functions.{is_empty}
use Rattle.ep_unit_rules.proofs.Emptiness.{opened_is}
use Rattle.ep_unit_rules.proofs.functions.+emptiness.Goals as goal

pub returns-in-len1-up : goal.returns-in-len1-up
returns-in-len1-up t c =
    opened_is c.in-With.field-0 c.in-With.records c.in-With.body (rw c.items.ensures at c.in-len1-up.len_at_least)
    ∙ ap (λ s. is_empty (stmt_of s)) (sym c.in-With.is)
