-- What a `with` of several records has, by its records and its body.
use Rattle.std.proofs.Common.{◌≡◌, ℕ, suc, ◌+◌, List, [], ◌∷◌, length, map, refl, arith}
use Rattle.ep_typed.specs.Auxiliaries.{first_for, first_for_in, with_variables}
use Rattle.ep_typed.specs.Nodes.{place_nodes, stmt_nodes, with_nodes}
use Rattle.ep_typed.specs.Trees.{Stmt, WithRecord, with_form}
use Rattle.ep_typed.specs.Viewed.{with_record_of}
use Rattle.ep_typed.specs.declared.tree.WithRecord.{WithRecord as Written}

-- its nodes
pub with_form_nodes : (line : ℕ) (rs : List WithRecord) (s : Stmt) → stmt_nodes (with_form line rs s) ≡ with_nodes rs + stmt_nodes s
with_form_nodes line [] s = omega arith
with_form_nodes line (r ∷ more) s = omega (arith, with_form_nodes line more s)

-- the first `for` in it is that in its body
pub first_for_with : (line : ℕ) (rs : List WithRecord) (s : Stmt) → first_for (with_form line rs s) ≡ first_for s
first_for_with line [] s = refl
first_for_with line (r ∷ more) s = first_for_with line more s

pub first_for_in_with : (line : ℕ) (rs : List WithRecord) (s : Stmt) → first_for_in (with_form line rs s) ≡ first_for_in s
first_for_in_with line [] s = refl
first_for_in_with line (r ∷ more) s = first_for_in_with line more s

-- each record has a variable that stands for it
pub with_form_count : (line : ℕ) (rs : List Written) (s : Stmt) → length (with_variables (with_form line (map with_record_of rs) s)) ≡ length rs + length (with_variables s)
with_form_count line [] s = omega arith
with_form_count line (r ∷ more) s = omega (arith, with_form_count line more s)
