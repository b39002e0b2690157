-- The laws of the layout.
use Rattle.ep_format.proofs.Formatted.{layout-is-formatted}
use Rattle.ep_format.proofs.Lines.{layout-knows-tokens, layout-keeps-pieces, layout-once}
use Rattle.ep_format.proofs.kinds.Knot.{kinds-decide}
use Rattle.ep_format.proofs.laws_of_layout.Goals as goal

pub returns-clause-pieces : goal.returns-clause-pieces
returns-clause-pieces c = layout-keeps-pieces

pub returns-clause-once : goal.returns-clause-once
returns-clause-once c = layout-once

pub returns-clause-tokens : goal.returns-clause-tokens
returns-clause-tokens c = layout-knows-tokens

pub returns-clause-kinds : goal.returns-clause-kinds
returns-clause-kinds c = kinds-decide

pub returns-clause-formatted : goal.returns-clause-formatted
returns-clause-formatted c = layout-is-formatted
