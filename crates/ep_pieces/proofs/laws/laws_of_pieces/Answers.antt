-- The laws of pieces.
use Rattle.ep_pieces.proofs.Once.{pieces-one, tokens-are-pieces}
use Rattle.ep_pieces.proofs.TokenKinds.{kinds-are-pieces}
use Rattle.ep_pieces.proofs.Gaps.{gaps-keep-pieces}
use Rattle.ep_pieces.proofs.laws.laws_of_pieces.Goals as goal

pub returns-clause-one : goal.returns-clause-one
returns-clause-one c = pieces-one

pub returns-clause-tokens : goal.returns-clause-tokens
returns-clause-tokens c = tokens-are-pieces

pub returns-clause-gaps : goal.returns-clause-gaps
returns-clause-gaps c = gaps-keep-pieces

pub returns-clause-kinds : goal.returns-clause-kinds
returns-clause-kinds c = kinds-are-pieces
