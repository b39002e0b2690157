use Rattle.ep_typed.specs.Viewed.{tagging_of}
use Rattle.ep_gen_code.proofs.public.Growing.{on_ok}
use Rattle.ep_gen_unit.proofs.TagForms.{appends_tried}
use Rattle.ep_gen_unit.proofs.tags.tried_code.Goals as goal

pub returns : goal.returns
returns c = on_ok c.within_code.result (appends_tried (tagging_of c.args.control.now) c.args.selection.now c.in_ok-emit.ensures c.in_ok-tag_place_code.ensures c.in_ok-entire_value_code.ensures) c.within_code.ensures
