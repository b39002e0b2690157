use Rattle.std.proofs.Common.{◌≡◌, drop}
use Rattle.ep_unit_rules.specs.Variants.{variants_joined}
use Rattle.ep_unit_rules.proofs.variants.add_variants.Given as goal

abbrev pub invariant-loop-place : goal.invariant-loop-place
invariant-loop-place l = variants_joined l.selection l.place (drop l.place l.lists) l.all ≡ variants_joined l.selection 0 l.lists l.initial.all
