-- The plain data of what is gathered of structured values.
use Rattle.std.specs.Prelude.{map}
use Rattle.std.specs.Option.{option_map}
use Rattle.ep_typed.specs.Viewed.{designator_of, element_of, expr_of}
use Rattle.ep_check_expr.specs.StructuredValues as structured
use Rattle.ep_check_expr.specs.declared.arranged.Arranged.{Arranged}
use Rattle.ep_check_expr.specs.declared.arranged.Index.{Index}
use Rattle.ep_check_expr.specs.declared.arranged.IndexLabels.{IndexLabels}
use Rattle.ep_check_expr.specs.declared.arranged.IndexLabels.TheVariants as labels
use Rattle.ep_check_expr.specs.declared.arranged.Ranges.{Ranges}
use Rattle.ep_check_expr.specs.declared.chosen.Choice.{Choice}
use Rattle.ep_check_expr.specs.declared.filled.Filled.{Filled}

-- the plain data of what structured values have
abbrev pub index_of : Index → structured.Index
index_of i = record { form = option_map expr_of i.form; depth = i.depth; constant = i.constant }

abbrev pub ranges_of : Ranges → structured.Ranges
ranges_of r = record { ranges = r.ranges; designators = option_map (map designator_of) r.designators; depth = r.depth }

abbrev pub labels_of : IndexLabels → structured.IndexLabels
labels_of (labels.One index) = structured.One (index_of index)
labels_of (labels.Many ranges) = structured.Many (ranges_of ranges)

abbrev pub arranged_of : Arranged → structured.Arranged
arranged_of r = record { elements = option_map (map element_of) r.elements; depth = r.depth; indexes = r.indexes }

abbrev pub filled_of : Filled → structured.Filled
filled_of r = record { elements = option_map (map element_of) r.elements; depth = r.depth; fields = r.fields }

abbrev pub choice_of : Choice → structured.Choice
choice_of c = record { filled = filled_of c.filled; chosen = c.chosen }
