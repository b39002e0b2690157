-- One answer for each spelling.
use Rattle.std.proofs.Common.{sym}
use Rattle.ep_token.proofs.SymbolLaws.{reference_spelling-bracket, reference_spelling-close, reference_spelling-caret, reference_spelling-same}
use Rattle.ep_token.proofs.symbol.reference_spelling.Goals as goal

pub returns-then-eq : goal.returns-then-eq
returns-then-eq c = sym (reference_spelling-bracket _ _ c.as_slice.ensures (sym c.if-eq.ensures))

pub returns-then-eq-2 : goal.returns-then-eq-2
returns-then-eq-2 c = sym (reference_spelling-close _ _ _ c.as_slice.ensures c.as_slice-else-eq.ensures (sym c.if-eq.ensures) (sym c.if-eq-2.ensures))

pub returns-then-eq-3 : goal.returns-then-eq-3
returns-then-eq-3 c = sym (reference_spelling-caret _ _ _ _ c.as_slice.ensures c.as_slice-else-eq.ensures c.as_slice-else-eq-2.ensures (sym c.if-eq.ensures) (sym c.if-eq-2.ensures) (sym c.if-eq-3.ensures))

pub returns-else-eq-3 : goal.returns-else-eq-3
returns-else-eq-3 c = sym (reference_spelling-same _ _ _ _ c.as_slice.ensures c.as_slice-else-eq.ensures c.as_slice-else-eq-2.ensures (sym c.if-eq.ensures) (sym c.if-eq-2.ensures) (sym c.if-eq-3.ensures))
