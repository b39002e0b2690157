use Rattle.ep_typed.specs.Viewed.{tagging_of}
use Rattle.ep_gen_code.proofs.public.Growing.{on_ok}
use Rattle.ep_gen_unit.proofs.TagForms.{appends_change}
use Rattle.ep_gen_unit.proofs.tags.change_code.Goals as goal

pub returns : goal.returns
returns c =
    on_ok c.land.result (appends_change (tagging_of c.args.control.now) c.args.selection.now c.in_ok-skip.skip c.in_ok-entire_value_code.ensures c.in_ok-number_code.ensures c.in_ok-apply_binary.ensures c.in_ok-skip.ensures c.in_ok-variants_code.ensures) c.land.ensures
