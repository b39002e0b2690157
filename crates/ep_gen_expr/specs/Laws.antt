-- What holds of the code of every expression and place: it stays code when the tables grow, and is short.
use Rattle.std.specs.Prelude.{ℕ, ◌+◌, ◌*◌, ◌≤◌, List, length}
use Rattle.ep_outside.specs.Known.{IsPrefix}
use Rattle.ep_object.specs.declared.code.Instr.{Instr}
use Rattle.ep_object.specs.declared.code.Reference.{Reference}
use Rattle.ep_typed.specs.Trees.{Place, Expr}
use Rattle.ep_gen_expr.specs.ExprCode.{IsPlaceCode, IsExprCode}
use Rattle.ep_typed.specs.Nodes.{place_nodes, expr_nodes}

-- the code of a place is that under larger tables too
abbrev pub PlaceCodeStays : Type 0
PlaceCodeStays =
    (ts us : List (List ℕ)) (rs ss : List Reference) (line at : ℕ) (p : Place) (is : List Instr) → IsPrefix ts us
    → IsPrefix rs ss → IsPlaceCode ts rs line at p is → IsPlaceCode us ss line at p is

-- the code of an expression is that under larger tables too
abbrev pub ExprCodeStays : Type 0
ExprCodeStays =
    (ts us : List (List ℕ)) (rs ss : List Reference) (line at : ℕ) (x : Expr) (is : List Instr) → IsPrefix ts us
    → IsPrefix rs ss → IsExprCode ts rs line at x is → IsExprCode us ss line at x is

-- at most 32 instructions for each typed node, and 8 fewer for each expression, which are left to what uses its value
abbrev pub PlaceCodeIsShort : Type 0
PlaceCodeIsShort =
    (ts : List (List ℕ)) (rs : List Reference) (line at : ℕ) (p : Place) (is : List Instr)
    → IsPlaceCode ts rs line at p is → length is ≤ 32 * place_nodes p

abbrev pub ExprCodeIsShort : Type 0
ExprCodeIsShort =
    (ts : List (List ℕ)) (rs : List Reference) (line at : ℕ) (x : Expr) (is : List Instr)
    → IsExprCode ts rs line at x is → length is + 8 ≤ 32 * expr_nodes x
