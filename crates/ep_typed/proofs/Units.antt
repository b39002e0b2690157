-- The auxiliary variables of a unit, by those of its start and of its stop.
use Rattle.std.proofs.Common.{◌≡◌, ℕ, ◌+◌, length, length-append, [], ◌++◌, Option, Some, None, refl, arith}
use Rattle.std.specs.Option.{option_or}
use Rattle.ep_typed.specs.Auxiliaries.{first_for, first_for_in, with_variables}
use Rattle.ep_typed.specs.Routines.{unit_block}
use Rattle.ep_typed.specs.Viewed.{stmt_of}
use Rattle.ep_typed.specs.declared.unit.Unit.{Unit as TypedUnit}

-- nothing behind the two of them
neither_behind : {A : Type 0} (o q : Option A) → option_or o (option_or q None) ≡ option_or o q
neither_behind None None = refl
neither_behind None (Some y) = refl
neither_behind (Some x) q = refl

pub unit_first_for : (u : TypedUnit) → first_for (unit_block u) ≡ option_or (first_for (stmt_of u.start)) (first_for (stmt_of u.stop))
unit_first_for u = neither_behind (first_for (stmt_of u.start)) (first_for (stmt_of u.stop))

pub unit_first_for_in : (u : TypedUnit) → first_for_in (unit_block u) ≡ option_or (first_for_in (stmt_of u.start)) (first_for_in (stmt_of u.stop))
unit_first_for_in u = neither_behind (first_for_in (stmt_of u.start)) (first_for_in (stmt_of u.stop))

pub unit_withs : (u : TypedUnit) → length (with_variables (unit_block u)) ≡ length (with_variables (stmt_of u.start)) + length (with_variables (stmt_of u.stop))
unit_withs u = omega (arith, length-append (with_variables (stmt_of u.start)) (with_variables (stmt_of u.stop) ++ []), length-append (with_variables (stmt_of u.stop)) [])
