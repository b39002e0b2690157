-- What stands at the front up to the end that was found is an identifier.
use Rattle.std.proofs.Common.{◌∙◌, ap, Err}
use Rattle.ep_token.proofs.NameLaws.{name_end-identifier}
use Rattle.ep_token.proofs.identifier.name_at.Goals as goal

pub unreachable-requires : goal.unreachable-requires
unreachable-requires c =
    let is = name_end-identifier _ _ c.requires.some c.requires.letter c.name_end-len.ensures.end in
    let not = c.from_bytes.ensures.not_a_name (c.in-Err-NotAName.is ∙ ap Err c.in-Err-NotAName.field-0-is) in
    cc
