use Rattle.std.proofs.Common.{[], ◌∷◌}
use Rattle.ep_grammar.specs.Classes.{Symbol}
use Rattle.ep_grammar.specs.Reading.{Parser}
use Rattle.ep_reader.specs.Rows.{ReadsBy, item_after_by, separated_by}
use Rattle.ep_reader.proofs.public.Turning.{Turning}
use Rattle.ep_reader.proofs.rows.separated.Given as goal

abbrev pub invariant-loop-turn : goal.invariant-loop-turn
invariant-loop-turn g l =
    (p : Parser g.row.T.Denot) → ReadsBy g.F.Fn l.item p → Turning (separated_by l.symbol p l.fn.reader) (Symbol l.symbol ∷ []) (item_after_by l.symbol p) (tt {0}) l._turn-end l._turn l.found l.reader
