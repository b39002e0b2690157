-- How many designators there are, for the nodes of elements.
use Rattle.std.proofs.Common.{◌≡◌, suc, List, [], ◌∷◌, length, map, refl, ap}
use Rattle.ep_typed.specs.Nodes.{designators_count}
use Rattle.ep_typed.specs.Trees.{designators}
use Rattle.ep_typed.specs.Viewed.{designator_of}
use Rattle.ep_typed.specs.declared.tree.MemberDesignator.{MemberDesignator}

pub counted : (ds : List MemberDesignator) → length ds ≡ designators_count (designators (map designator_of ds))
counted [] = refl
counted (d ∷ more) = ap suc (counted more)
