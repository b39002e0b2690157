use Rattle.std.proofs.Common.{map}
use Rattle.ep_typed.specs.Viewed.{item_of}
use Rattle.ep_gen_code.proofs.public.Growing.{on_ok}
use Rattle.ep_gen_unit.proofs.StmtForms.{appends_write}
use Rattle.ep_gen_unit.proofs.statements.write_code.Goals as goal

pub returns : goal.returns
returns c = on_ok c.items_code.result (appends_write c.args.code.now c.args.line (map item_of c.args.items.now) c.args.ends_line) c.items_code.ensures
