use Rattle.ep_gen_code.proofs.public.Growing.{on_ok}
use Rattle.ep_gen_unit.proofs.ItemForms.{appends_line_end}
use Rattle.ep_gen_unit.proofs.items.line_end.Goals as goal

pub returns : goal.returns
returns c = on_ok c.emit-3.result (appends_line_end c.in_ok-output_place.ensures c.in_ok-emit.ensures c.in_ok-emit-2.ensures) c.emit-3.ensures
