use Rattle.ep_typed.specs.Viewed.{expr_of}
use Rattle.ep_gen_code.proofs.public.Growing.{on_ok}
use Rattle.ep_gen_unit.proofs.ItemForms.{appends_wide}
use Rattle.ep_gen_unit.proofs.items.wide_item.Goals as goal

pub returns : goal.returns
returns c =
    on_ok c.emit.result (appends_wide c.args.print (expr_of c.args.value.now) (expr_of c.args.width.now)
    c.in_ok-output_place.ensures c.in_ok-expression_code.ensures c.in_ok-apply_before_width.ensures c.in_ok-expression_code-2.ensures c.in_ok-apply_wide.ensures) c.emit.ensures
