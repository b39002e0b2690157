-- The variants of a record among its components, and their labels (ISO 10206, 6.4.3.4).
use Rattle.std.specs.Prelude.{ℕ, suc, ◌+◌, ◌*◌, List, [], ◌∷◌, length, if◌then◌else◌}
use Rattle.ep_typed.specs.declared.tree.CaseRange.{CaseRange}
use Rattle.ep_typed.specs.declared.tree.Selection.{Selection}

-- the number of the component that is the variant with this number
abbrev pub variant_number : Selection → ℕ → ℕ
variant_number s k = suc (s.tag + k)

-- how many variants there are
abbrev pub variants_count : Selection → ℕ
variants_count s = length s.labels + (if s.completed then 1 else 0)

-- how many nodes the labels of variants are, each of which is a range with two bounds
abbrev pub labels_nodes : List (List CaseRange) → ℕ
labels_nodes [] = 0
labels_nodes (ranges ∷ more) = 3 * length ranges + labels_nodes more
