use Rattle.ep_typed.specs.Viewed.{tagging_of}
use Rattle.ep_gen_code.proofs.public.Growing.{on_ok}
use Rattle.ep_gen_unit.proofs.TagForms.{appends_taken}
use Rattle.ep_gen_unit.proofs.tags.taken_code.Goals as goal

pub returns : goal.returns
returns c = on_ok c.emit.result (appends_taken (tagging_of c.args.control.now) c.args.selection.now c.in_ok-tag_place_code.ensures c.in_ok-entire_value_code.ensures) c.emit.ensures
