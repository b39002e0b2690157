-- What a unit has whose stop does nothing: its auxiliary variables are those of its start.
use Rattle.std.proofs.Common.{◌≡◌, ℕ, List, [], ◌++◌, Option, Some, None, append-nil, refl, ap, ◌∙◌}
use Rattle.std.specs.Option.{option_or}
use Rattle.ep_typed.specs.Auxiliaries.{auxiliary_variables, block_auxiliaries, first_for, first_for_in, member_variables, with_variables}
use Rattle.ep_typed.specs.Routines.{unit_block}
use Rattle.ep_typed.specs.Trees.{Stmt, Empty, Compound, next, none}
use Rattle.ep_typed.specs.Viewed.{stmt_of}
use Rattle.ep_typed.specs.declared.unit.Unit.{Unit as TypedUnit}

nothing_behind : {A : Type 0} (o : Option A) → option_or o None ≡ o
nothing_behind None = refl
nothing_behind (Some x) = refl

-- a statement, and the empty one behind it
abbrev then_empty : Stmt → Stmt
then_empty s = Compound (next s (next Empty none))

then_empty_auxiliaries : (s : Stmt) → block_auxiliaries (then_empty s) ≡ block_auxiliaries s
then_empty_auxiliaries s =
    ap (λ o. auxiliary_variables o ++ member_variables (first_for_in (then_empty s))) (nothing_behind (first_for s))
    ∙ ap (λ o. auxiliary_variables (first_for s) ++ member_variables o) (nothing_behind (first_for_in s))

pub start_auxiliaries : (u : TypedUnit) → stmt_of u.stop ≡ Empty → block_auxiliaries (unit_block u) ≡ block_auxiliaries (stmt_of u.start)
start_auxiliaries u idle = ap (λ s. block_auxiliaries (Compound (next (stmt_of u.start) (next s none)))) idle ∙ then_empty_auxiliaries (stmt_of u.start)

pub start_withs : (u : TypedUnit) → stmt_of u.stop ≡ Empty → with_variables (unit_block u) ≡ with_variables (stmt_of u.start)
start_withs u idle = ap (λ s. with_variables (Compound (next (stmt_of u.start) (next s none)))) idle ∙ append-nil (with_variables (stmt_of u.start))
