-- One answer for each spelling.
use Rattle.std.proofs.Common.{sym}
use Rattle.ep_pieces.proofs.Spellings.{bracket, close, caret, first}
use Rattle.ep_pieces.proofs.piece.reference_spelling.Goals as goal

pub returns-then-eq : goal.returns-then-eq
returns-then-eq c = sym (bracket _ _ c.as_slice.ensures (sym c.if-eq.ensures))

pub returns-then-eq-2 : goal.returns-then-eq-2
returns-then-eq-2 c = sym (close _ _ _ c.as_slice.ensures c.as_slice-else-eq.ensures (sym c.if-eq.ensures) (sym c.if-eq-2.ensures))

pub returns-then-eq-3 : goal.returns-then-eq-3
returns-then-eq-3 c = sym (caret _ _ _ _ c.as_slice.ensures c.as_slice-else-eq.ensures c.as_slice-else-eq-2.ensures (sym c.if-eq.ensures) (sym c.if-eq-2.ensures) (sym c.if-eq-3.ensures))

pub returns-else-eq-3 : goal.returns-else-eq-3
returns-else-eq-3 c = sym (first _ _ _ _ c.as_slice.ensures c.as_slice-else-eq.ensures c.as_slice-else-eq-2.ensures (sym c.if-eq.ensures) (sym c.if-eq-2.ensures) (sym c.if-eq-3.ensures))
