use Rattle.std.proofs.Common.{◌≡◌, false, bytes_eq, ap, sym, ◌∙◌, w64}
use Rattle.std.proofs.lemmas.Int.{to_z-of_z}
use Rattle.ep_object.specs.Placing.{reference_at}
use Rattle.ep_drive.proofs.Placed.{other_unit}
use Rattle.ep_drive.proofs.Refused.{match_some}
use Rattle.ep_drive.proofs.image.own_number.Goals as goal

pub returns-else-eq : goal.returns-else-eq
returns-else-eq c =
    let other : bytes_eq c.args.object.now.name c.in_ok-reference.reference.now.unit ≡ false = cc in
    let found = match_some c.reference_at.result _ _ c.in_ok-reference.reference c.reference_at.ensures c.in_ok-reference.was in
    let field = to_z-of_z w64 c.args.field c.ranges.field in
    other_unit c.args.object.now _ c.in_ok-reference.reference.now (ap (λ references. reference_at references c.args.field) (sym c.items.ensures) ∙ ap (reference_at c.items.result.now) (sym field) ∙ found) other
