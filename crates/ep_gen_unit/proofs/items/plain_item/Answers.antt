use Rattle.ep_typed.specs.Viewed.{expr_of}
use Rattle.ep_gen_code.proofs.public.Growing.{on_ok}
use Rattle.ep_gen_unit.proofs.ItemForms.{appends_plain}
use Rattle.ep_gen_unit.proofs.items.plain_item.Goals as goal

pub returns : goal.returns
returns c =
    on_ok c.emit.result (appends_plain c.args.print (expr_of c.args.value.now) c.in_ok-output_place.ensures c.in_ok-expression_code.ensures c.in_ok-apply_plain.ensures) c.emit.ensures
