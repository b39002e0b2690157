-- A statement by the statements that stand right in it, and by what it has besides them.
use Rattle.std.specs.Prelude.{ℕ, ◌+◌, List, [], ◌∷◌, length, map, Option, None, Some}
use Rattle.ep_typed.specs.Nodes.{actuals_nodes, expr_nodes, items_nodes, place_nodes, with_nodes}
use Rattle.ep_typed.specs.Selections.{labels_nodes}
use Rattle.ep_typed.specs.Trees.{actuals, entire}
use Rattle.ep_typed.specs.Viewed.{actual_of, entire_of, expr_of, item_of, place_of, with_record_of}
use Rattle.ep_typed.specs.declared.tree.CaseArm.{CaseArm}
use Rattle.ep_typed.specs.declared.tree.TypedStmt.{TypedStmt, out-TypedStmt}
use Rattle.ep_typed.specs.declared.tree.TypedStmt.TheOpen as stmt
use Rattle.ep_typed.specs.declared.tree.TypedStmt.TheOpen.{TypedStmt-F}

-- a statement by its variant, with the statements in it as they are
abbrev pub Layer : Type 0
Layer = TypedStmt-F TypedStmt CaseArm

-- in the order of the text: statements, the arms of a `case`, and statements behind those
pub record Parts : Type 0 where
  pub first : List TypedStmt
  pub arms : List CaseArm
  pub last : List TypedStmt

abbrev pub front : List TypedStmt → Parts
front all = record { first = all; arms = []; last = [] }

abbrev pub otherwise : Option (List TypedStmt) → List TypedStmt
otherwise None = []
otherwise (Some all) = all

abbrev pub layer_parts : Layer → Parts
layer_parts (stmt.Compound all) = front all
layer_parts (stmt.If line condition a b) = record { first = a ∷ []; arms = []; last = b ∷ [] }
layer_parts (stmt.While line condition body) = front (body ∷ [])
layer_parts (stmt.Repeat line body condition) = front body
layer_parts (stmt.For line control initial last body) = front (body ∷ [])
layer_parts (stmt.ForIn line control set body) = front (body ∷ [])
layer_parts (stmt.With line records body) = front (body ∷ [])
layer_parts (stmt.Case line selector arms other) = record { first = []; arms = arms; last = otherwise other }
layer_parts without = front []

abbrev pub parts_of : TypedStmt → Parts
parts_of s = layer_parts (out-TypedStmt s)

-- the line of a `for` with bounds or of an assignment to a tag
abbrev pub bounds_line : Layer → Option ℕ
bounds_line (stmt.For line control initial last body) = Some line
bounds_line (stmt.AssignTag line control whole selection value) = Some line
bounds_line other = None

-- the line of a `for` over members
abbrev pub members_line : Layer → Option ℕ
members_line (stmt.ForIn line control set body) = Some line
members_line other = None

-- how many records a `with` opens
abbrev pub records_count : Layer → ℕ
records_count (stmt.With line records body) = length records
records_count other = 0

-- the nodes that are in none of the parts, with the statement itself
abbrev pub own_nodes : Layer → ℕ
own_nodes (stmt.Assign line place value) = 1 + place_nodes (place_of place) + expr_nodes (expr_of value)
own_nodes (stmt.AssignTag line control whole selection value) =
    2 + place_nodes (place_of whole) + labels_nodes selection.labels + expr_nodes (expr_of value)
own_nodes (stmt.If line condition a b) = 1 + expr_nodes (expr_of condition)
own_nodes (stmt.While line condition body) = 1 + expr_nodes (expr_of condition)
own_nodes (stmt.Repeat line body condition) = 1 + expr_nodes (expr_of condition)
own_nodes (stmt.For line control initial last body) =
    1 + place_nodes (entire (entire_of control.variable)) + expr_nodes (expr_of initial) + expr_nodes (expr_of last)
own_nodes (stmt.ForIn line control set body) =
    1 + place_nodes (entire (entire_of control.variable)) + expr_nodes (expr_of set)
own_nodes (stmt.With line records body) = with_nodes (map with_record_of records)
own_nodes (stmt.Procedure line callee given) = 1 + actuals_nodes (actuals (map actual_of given))
own_nodes (stmt.Case line selector arms other) = 1 + expr_nodes (expr_of selector)
own_nodes (stmt.Write line items ends_line) = 1 + items_nodes (map item_of items)
own_nodes other = 1
