use Rattle.std.proofs.Common.{◌≡◌}
use Rattle.ep_linkable.specs.Faults.{refusal_for}
use Rattle.ep_linkable.proofs.Faults.{fault_refused, import_read, not_all_faultless}
use Rattle.ep_linkable.proofs.OneProgram.{stands_read}
use Rattle.ep_linkable.proofs.imports.fault_at.Goals as goal

pub unreachable-requires : goal.unreachable-requires
unreachable-requires c =
    not_all_faultless c.args.units.now c.args.fault c.args.place c.index-units-place.result c.items-imports.result.now
    (stands_read c.args.units.now c.args.place c.index-units-place.result c.requires.least.0 c.index-units-place.is)
    c.items-imports.ensures c.requires.least c.in-None.ensures

pub returns : goal.returns
returns c =
    let units = c.args.units.now in
    let imports = c.items-imports.result.now in
    let unit = c.index-units-place.result in
    let import' = c.index-imports-number.result in
    let e : c.in_ok-refusal-in-Some.refusal ≡ refusal_for c.args.fault import'.interface.now unit.name.now =
    cc (c.in_ok-refusal-in-Some.ensures, c.index-units-place.is, c.index-imports-number.is) in
    fault_refused units c.args.fault c.requires.apart c.args.place unit imports c.in-Some.number import'
    c.in_ok-refusal-in-Some.refusal
    (stands_read units c.args.place unit c.requires.least.0 c.index-units-place.is) c.items-imports.ensures
    (import_read imports c.in-Some.number import' c.in-Some.ensures.0 c.index-imports-number.is)
    c.requires.least c.in-Some.ensures e c.requires.none
