-- What a walk over statements gives, by the parts of a statement and by what it has besides them (specs/Parts.antt).
use Rattle.std.proofs.Common.{◌≡◌, ◌∙◌, ℕ, ◌+◌, length, map, Option, Some, None, sym, ap, arith}
use Rattle.std.specs.Option.{option_or}
use Rattle.ep_typed.specs.Auxiliaries.{first_for, first_for_arms, first_for_of, first_for_in, first_for_in_arms, first_for_in_of, with_variables, with_variables_in, with_variables_of}
use Rattle.ep_typed.specs.Nodes.{arms_nodes, stmt_nodes, stmts_nodes}
use Rattle.ep_typed.specs.Parts.{Layer, bounds_line, layer_parts, members_line, own_nodes, records_count}
use Rattle.ep_typed.specs.Trees.{Arm, Arms, Stmt, Stmts, arms, stmts}
use Rattle.ep_typed.specs.Viewed.{arm_of, arm_step, stmt_of, stmt_step, with_record_of}
use Rattle.ep_typed.specs.declared.tree.CaseArm.{CaseArm}
use Rattle.ep_typed.specs.declared.tree.TypedStmt.{TypedStmt, out-TypedStmt, roll-TypedStmt, roll-out-TypedStmt}
use Rattle.ep_typed.specs.declared.tree.TypedStmt.TheOpen as stmt
use Rattle.ep_typed.specs.declared.tree.TypedStmt.TheFolds.{fold-roll-TypedStmt, map-TypedStmt}
use Rattle.std.proofs.lemmas.List.{length-append}
use Rattle.ep_typed.proofs.public.Withs.{first_for_with, first_for_in_with, with_form_count, with_form_nodes}

seen : (x : Layer) → stmt_of (roll-TypedStmt x) ≡ stmt_step (map-TypedStmt TypedStmt CaseArm Stmt Arm stmt_of arm_of x)
seen x = fold-roll-TypedStmt Stmt Arm stmt_step arm_step x

-- the first line, of the statement itself or of one in it
abbrev found : (Layer → Option ℕ) → (Stmts → Option ℕ) → (Arms → Option ℕ) → Layer → Option ℕ
found own of in_arms x =
    let p = layer_parts x in
    option_or (option_or (option_or (own x) (of (stmts (map stmt_of p.first)))) (in_arms (arms (map arm_of p.arms)))) (of (stmts (map stmt_of p.last)))

layer_first_for : (x : Layer) → first_for (stmt_of (roll-TypedStmt x)) ≡ found bounds_line first_for_of first_for_arms x
layer_first_for (stmt.With line rs s) = grind (arith, seen (stmt.With line rs s), first_for_with line (map with_record_of rs) (stmt_of s))
layer_first_for (stmt.Case line x cs None) = grind (arith, seen (stmt.Case line x cs None))
layer_first_for (stmt.Case line x cs (Some ss)) = grind (arith, seen (stmt.Case line x cs (Some ss)))
layer_first_for x = grind (arith, seen x)

pub first_for_is : (s : TypedStmt) → first_for (stmt_of s) ≡ found bounds_line first_for_of first_for_arms (out-TypedStmt s)
first_for_is s = ap (λ z. first_for (stmt_of z)) (sym (roll-out-TypedStmt s)) ∙ layer_first_for (out-TypedStmt s)

layer_first_for_in : (x : Layer) → first_for_in (stmt_of (roll-TypedStmt x)) ≡ found members_line first_for_in_of first_for_in_arms x
layer_first_for_in (stmt.With line rs s) = grind (arith, seen (stmt.With line rs s), first_for_in_with line (map with_record_of rs) (stmt_of s))
layer_first_for_in (stmt.Case line x cs None) = grind (arith, seen (stmt.Case line x cs None))
layer_first_for_in (stmt.Case line x cs (Some ss)) = grind (arith, seen (stmt.Case line x cs (Some ss)))
layer_first_for_in x = grind (arith, seen x)

pub first_for_in_is : (s : TypedStmt) → first_for_in (stmt_of s) ≡ found members_line first_for_in_of first_for_in_arms (out-TypedStmt s)
first_for_in_is s = ap (λ z. first_for_in (stmt_of z)) (sym (roll-out-TypedStmt s)) ∙ layer_first_for_in (out-TypedStmt s)

-- what adds up over the parts
abbrev total : (Layer → ℕ) → (Stmts → ℕ) → (Arms → ℕ) → Layer → ℕ
total own of in_arms x =
    let p = layer_parts x in
    own x + of (stmts (map stmt_of p.first)) + in_arms (arms (map arm_of p.arms)) + of (stmts (map stmt_of p.last))

abbrev withs_total : Layer → ℕ
withs_total = total records_count (λ ss. length (with_variables_of ss)) (λ all. length (with_variables_in all))

layer_withs : (x : Layer) → length (with_variables (stmt_of (roll-TypedStmt x))) ≡ withs_total x
layer_withs (stmt.With line rs s) = grind (arith, length-append, seen (stmt.With line rs s), with_form_count line rs (stmt_of s))
layer_withs (stmt.Case line x cs None) = grind (arith, length-append, seen (stmt.Case line x cs None))
layer_withs (stmt.Case line x cs (Some ss)) = grind (arith, length-append, seen (stmt.Case line x cs (Some ss)))
layer_withs x = grind (arith, length-append, seen x)

pub with_count_is : (s : TypedStmt) → length (with_variables (stmt_of s)) ≡ withs_total (out-TypedStmt s)
with_count_is s = ap (λ z. length (with_variables (stmt_of z))) (sym (roll-out-TypedStmt s)) ∙ layer_withs (out-TypedStmt s)

layer_nodes : (x : Layer) → stmt_nodes (stmt_of (roll-TypedStmt x)) ≡ total own_nodes stmts_nodes arms_nodes x
layer_nodes (stmt.With line rs s) = grind (arith, seen (stmt.With line rs s), with_form_nodes line (map with_record_of rs) (stmt_of s))
layer_nodes (stmt.Case line x cs None) = grind (arith, seen (stmt.Case line x cs None))
layer_nodes (stmt.Case line x cs (Some ss)) = grind (arith, seen (stmt.Case line x cs (Some ss)))
layer_nodes x = grind (arith, seen x)

pub stmt_nodes_is : (s : TypedStmt) → stmt_nodes (stmt_of s) ≡ total own_nodes stmts_nodes arms_nodes (out-TypedStmt s)
stmt_nodes_is s = ap (λ z. stmt_nodes (stmt_of z)) (sym (roll-out-TypedStmt s)) ∙ layer_nodes (out-TypedStmt s)
