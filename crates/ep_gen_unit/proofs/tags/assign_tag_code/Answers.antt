use Rattle.ep_typed.specs.Viewed.{expr_of, place_of, tagging_of}
use Rattle.ep_gen_code.proofs.public.Growing.{on_ok}
use Rattle.ep_gen_unit.proofs.TagForms.{appends_tag}
use Rattle.ep_gen_unit.proofs.tags.assign_tag_code.Goals as goal

pub returns : goal.returns
returns c =
    on_ok c.taken_code.result (appends_tag c.args.code.now c.args.line (tagging_of c.args.control.now) (place_of c.args.whole.now) c.args.selection.now (expr_of c.args.value.now) c.in_ok-place_code.ensures c.in_ok-assign_entire.ensures c.in_ok-tried_code.ensures c.in_ok-selected_code.ensures c.in_ok-change_code.ensures) c.taken_code.ensures
