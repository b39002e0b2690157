use Rattle.std.proofs.Common.{[], ◌∷◌, subst}
use Rattle.ep_fields.specs.Fields.{integer, number}
use Rattle.ep_iface.specs.ConstantTypes.{IsConstantType}
use Rattle.ep_iface.specs.Formats.{flag}
use Rattle.ep_iface.proofs.Rows.{five, on_ok, three, wrote}
use Rattle.ep_iface.proofs.constant_types.ConstantTypeItem.write.Goals as goal

pub returns-in_ok-i64-in-Ord : goal.returns-in_ok-i64-in-Ord
returns-in_ok-i64-in-Ord c =
    let fits = subst IsConstantType c.in-Ord.is c.requires in
    let lo = c.in-Ord.lo in
    let hi = c.in-Ord.hi in
    rw c.in-Ord.is
    (on_ok c.i64-in-Ord.result
    (λ e. three c.args.writer.now (0 ∷ []) (integer lo) (integer hi) _ _ _ c.in_ok-u8-in-Ord.ensures.ok (wrote _ _ lo fits.0 c.in_ok-i64-in-Ord.ensures.ok) (wrote _ _ hi fits.1 e))
    c.i64-in-Ord.ensures.ok)

pub returns-in_ok-i64-in-Set : goal.returns-in_ok-i64-in-Set
returns-in_ok-i64-in-Set c =
    let fits = subst IsConstantType c.in-Set.is c.requires in
    let lo = c.in-Set.lo in
    let hi = c.in-Set.hi in
    rw c.in-Set.is
    (on_ok c.i64-in-Set-2.result
    (λ e. three c.args.writer.now (1 ∷ []) (integer lo) (integer hi) _ _ _ c.in_ok-u8-in-Set.ensures.ok (wrote _ _ lo fits.0 c.in_ok-i64-in-Set.ensures.ok) (wrote _ _ hi fits.1 e))
    c.i64-in-Set-2.ensures.ok)

pub returns-in_ok-i64-in-Arr-2 : goal.returns-in_ok-i64-in-Arr-2
returns-in_ok-i64-in-Arr-2 c =
    let fits = subst IsConstantType c.in-Arr.is c.requires in
    let lo = c.in-Arr.lo in
    let hi = c.in-Arr.hi in
    rw c.in-Arr.is
    (on_ok c.u32.result
    (five c.args.writer.now (3 ∷ []) (flag c.in-Arr.fixed) (integer lo) (integer hi) (number c.in-Arr.component) _ _ _ _ _ c.in_ok-u8-in-Arr.ensures.ok c.in_ok-write_flag-in-Arr.ensures (wrote _ _ lo fits.0 c.in_ok-i64-in-Arr.ensures.ok) (wrote _ _ hi fits.1 c.in_ok-i64-in-Arr-2.ensures.ok))
    c.u32.ensures.ok)
