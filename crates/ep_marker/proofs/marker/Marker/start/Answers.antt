use Rattle.std.proofs.Common.{◌<◌, ◌≤◌, length, refl, arith}
use Rattle.ep_marker.proofs.Forms.{set-starting, take-all}
use Rattle.ep_marker.proofs.marker.Marker.start.Goals as goal

pub returns-then-first-len : goal.returns-then-first-len
returns-then-first-len c =
    let m = c.args.self.now.marks in
    let in_range : c.args.first < length m.items = omega (arith, m.ok.0) in
    (refl, refl, set-starting c.args.first m.items c.index_mut.result.now in_range c.index_mut.ensures.value)

pub returns-else-first-len : goal.returns-else-first-len
returns-else-first-len c =
    let m = c.args.self.now.marks in
    let behind : length m.items ≤ c.args.first = omega (arith, m.ok.0) in
    (refl, refl, take-all m.items c.args.first behind)
