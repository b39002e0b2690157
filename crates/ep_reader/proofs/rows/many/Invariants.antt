use Rattle.std.proofs.Common.{List}
use Rattle.ep_grammar.specs.Classes.{Class}
use Rattle.ep_grammar.specs.Reading.{Parser}
use Rattle.ep_reader.specs.Rows.{ReadsBy, item_by, many_by, optional_by}
use Rattle.ep_reader.proofs.public.Turning.{Turning}
use Rattle.ep_reader.proofs.rows.many.Given as goal

abbrev pub invariant-loop-turn : goal.invariant-loop-turn
invariant-loop-turn g l =
    (cs : List Class) (p : Parser g.row.T.Denot) → ReadsBy g.F.Fn l.item (optional_by cs p) → Turning (many_by cs p l.fn.found l.fn.reader) cs (item_by p) (tt {0}) l._turn-end l._turn l.found l.reader
