-- A text has one list of pieces, which tells the kinds of its tokens, and a text that has the pieces of another with spaces between them has the same.
use Rattle.ep_pieces.specs.Pieces.{KindsArePieces, OneListOfPieces}
use Rattle.ep_pieces.specs.Joining.{GapsKeepPieces}
use Rattle.ep_pieces.proofs.Once as once
use Rattle.ep_pieces.proofs.Gaps as gaps
use Rattle.ep_pieces.proofs.TokenKinds as kinds

pub pieces-one : OneListOfPieces
pieces-one = once.pieces-one

pub gaps-keep-pieces : GapsKeepPieces
gaps-keep-pieces = gaps.gaps-keep-pieces

pub kinds-are-pieces : KindsArePieces
kinds-are-pieces = kinds.kinds-are-pieces
