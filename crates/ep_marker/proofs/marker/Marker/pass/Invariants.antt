use Rattle.std.proofs.Common.{◌≡◌, ◌≤◌, ◌++◌, replicate}
use Rattle.ep_marker.specs.Marking.{mark_at}
use Rattle.ep_marker.proofs.marker.Marker.pass.Given as goal

abbrev pub invariant-loop-token : goal.invariant-loop-token
invariant-loop-token l = record {
  reader : l.self.reader ≡ l.fn.self.reader;
  stop : l.self.stop ≡ l.fn.self.stop;
  turns : l._token ≤ l.passed;
  items : l.self.marks.items ≡ l.fn.self.marks.items ++ replicate l._token (mark_at l.depth);
}
