use Rattle.std.proofs.Common.{◌≡◌, map, length}
use Rattle.ep_unit_rules.specs.Answers.{field_in, tag_in}
use Rattle.ep_check_unit.specs.Answers.{gathered_in}
use Rattle.ep_unit_rules.specs.Records.{fields_nodes}
use Rattle.ep_unit_rules.specs.Types.{counted}
use Rattle.ep_check_unit.specs.Declarations.{selection_of, variant_part}
use Rattle.ep_check_unit.proofs.VariantParts.{list_made, map_length}
use Rattle.ep_check_unit.proofs.variants.variant_list.Goals as goal

pub returns : goal.returns
returns c = λ b around.
    let own = map field_in c.args.own.now in
    let t = tag_in c.args.tag in
    let g = gathered_in b c.args.gathered in
    let selection : c.in_ok-selection.selection ≡ selection_of (length own) g = cc (c.in_ok-selection.ensures, c.in_ok-component.ensures, c.is_some.ensures, map_length field_in c.args.own.now, c.into_parts-labels.ensures.labels, c.into_parts-labels.ensures.completing) in
    let lists : c.items.result.now ≡ c.args.gathered.lists = cc (c.items.ensures, c.into_parts-labels.ensures.lists) in
    let nodes : c.counted-nodes.result ≡ counted (counted (fields_nodes 0 own) c.args.tag.of.nodes) c.args.gathered.nodes = cc (c.counted-nodes.ensures, c.counted.ensures, c.nodes.ensures) in
    let part : c.in_ok-variant_part.field-0 ≡ variant_part t g = c.in_ok-variant_part.ensures g (cc (c.into_parts-labels.ensures.variants)) (cc (c.into_parts-labels.ensures.completing)) in
    list_made own around t g c.in_ok-selection.selection c.items.result.now c.in_ok-fields.fields c.in_ok-denoted.field-0 c.in_ok-variant_part.field-0 c.counted-nodes.result selection lists c.in_ok-fields.ensures c.in_ok-denoted.ensures part nodes
