-- The parameters of a program: each is the name of a standard file.
use Rattle.std.proofs.Common.{◌≡◌, ℕ, ◌+◌, ◌<◌, Bool, true, false, ◌&&◌, ◌||◌, List, drop, length, get_or, codes, Some, None, refl, subst}
use Rattle.std.specs.Prelude.{if◌then◌else◌}
use Rattle.std.specs.List.{list_all}
use Rattle.std.specs.Str.{bytes_eq}
use Rattle.ep_built.specs.Built.{is_among, program_parameters}
use Rattle.ep_typed.specs.declared.tree.StandardFile.TheVariants as file
use Rattle.ep_stmt_rules.proofs.public.judged.Rounds.{next_item}
use Rattle.ep_check_unit.specs.Units.{standard_file}

chosen : (a b : Bool) → (a || (b || false)) ≡ true → (if a then Some file.Input else (if b then Some file.Output else None)) ≡ None → ⊥
chosen true b h e = cc
chosen false true h e = cc
chosen false false h e = cc

-- a name among the parameters that a program may have is that of a file
pub is_file : (name : List ℕ) → is_among program_parameters name ≡ true → standard_file name ≡ None → ⊥
unfolding program_parameters
is_file name h e = chosen (bytes_eq name (codes "input")) (bytes_eq name (codes "output")) h e

first_passes : (a b : Bool) → (a && b) ≡ true → a ≡ true
first_passes true b h = refl
first_passes false b h = h

-- the name that comes next
pub next_is_file : (names : List (List ℕ)) (i : ℕ) (name : List ℕ) → i < length names → name ≡ get_or names i name → list_all (is_among program_parameters) (drop i names) ≡ true → standard_file name ≡ None → ⊥
next_is_file names i name h is known none =
    is_file name (first_passes (is_among program_parameters name) (list_all (is_among program_parameters) (drop (i + 1) names)) (subst (λ xs. list_all (is_among program_parameters) xs ≡ true) (next_item names i name h is) known)) none
