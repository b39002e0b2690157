use Rattle.ep_grammar.specs.Expressions.{of_name}
use Rattle.ep_grammar.specs.Reading.{Parser}
use Rattle.ep_reader.specs.Rows.{ReadsBy, item_by, some_by}
use Rattle.ep_reader.proofs.public.Turning.{Turning}
use Rattle.ep_reader.proofs.rows.one_or_more.Given as goal

abbrev pub invariant-loop-turn : goal.invariant-loop-turn
invariant-loop-turn g l =
    (p : Parser g.row.T.Denot) → ReadsBy g.F.Fn l.item p → Turning (some_by of_name p l.fn.reader) of_name (item_by p) (tt {0}) l._turn-end l._turn l.found l.reader
