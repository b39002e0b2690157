-- A `with` that opens a record is no empty statement.
use Rattle.std.proofs.Common.{◌≡◌, ◌≤◌, ℕ, Bool, false, List, [], ◌∷◌, length, sym, ap, arith}
use Rattle.ep_typed.specs.Viewed.{stmt_of}
use Rattle.ep_typed.specs.declared.tree.TypedStmt.{TypedStmt}
use Rattle.ep_typed.specs.declared.tree.TypedStmt.TheVariants as typed
use Rattle.ep_typed.specs.declared.tree.WithRecord.{WithRecord}
use Rattle.ep_typed.proofs.public.Statements.{with_is}
use Rattle.ep_unit_rules.specs.Functions.{is_empty}

pub opened_is : (line : ℕ) (records : List WithRecord) (body : TypedStmt) → 1 ≤ length records → false ≡ is_empty (stmt_of (typed.With line records body))
opened_is line [] body h = absurd (omega (arith, h))
opened_is line (r ∷ rs) body h = ap is_empty (sym (with_is line (r ∷ rs) body))
