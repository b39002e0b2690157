-- Members that lie between two ordinals, each on its own.
use Rattle.std.proofs.Common.{◌≡◌, ℤ, ℕ, pos, List, [], ◌∷◌, refl, ap}
use Rattle.std.specs.Prelude.{◌&&◌}
use Rattle.std.specs.List.{list_all}
use Rattle.ep_values.specs.Sets.{are_between, is_between}

pub between_all : (low high : ℤ) (ms : List ℕ) → are_between low high ms ≡ list_all (λ m. is_between (pos m) low high) ms
between_all low high [] = refl
between_all low high (m ∷ ms) = ap (λ b. is_between (pos m) low high && b) (between_all low high ms)
