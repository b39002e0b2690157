use Rattle.std.proofs.Common.{◌≡◌, [], drop, map}
use Rattle.ep_typed.specs.Trees.{designators}
use Rattle.ep_typed.specs.Viewed.{designator_of}
use Rattle.ep_rules.proofs.folding.+folded.Given as goal
use Rattle.ep_rules.specs.Folding.{folded_members}
use Rattle.ep_rules.specs.declared.folding.Folded.TheVariants.{Known}
use Rattle.ep_rules.specs.declared.folding.KnownValue.TheVariants as known

abbrev pub invariant-members-loop-designator : goal.invariant-members-loop-designator
invariant-members-loop-designator l = folded_members l.found (designators (map designator_of (drop l.designator-index l.all))) ≡ folded_members (Known (known.Members [])) (designators (map designator_of l.all))
