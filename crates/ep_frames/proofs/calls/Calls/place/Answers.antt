use Rattle.std.proofs.Common.{◌≡◌, ◌∷◌, [], ◌++◌, Some, length, reverse, rules, ap, ◌∙◌}
use Rattle.ep_frames.specs.Calls.{frames_over, operands_in, IsSlot, placed, first}
use Rattle.ep_frames.proofs.CallFrames.{placed_view}
use Rattle.ep_frames.proofs.calls.Calls.place.Goals as goal

pub returns : goal.returns
returns c =
    let s = c.self.inside in
    let found : first (reverse s.calls.items) ≡ Some c.in-Some.call = search rules in
    let pushed : c.push.new.self.items ≡ s.made.items ++ c.args.segment ∷ [] = search rules in
    let there : IsSlot (frames_over s.slots.items (operands_in s.arguments.items) s.made.items (reverse s.calls.items)) c.args.slot = search rules in
    record { placed = rw pushed (placed_view s.slots.items (operands_in s.arguments.items) s.made.items (reverse s.calls.items) c.in-Some.call (length s.arguments.items) c.args.slot c.args.place c.args.segment found c.self.invariant there ∙ ap (λ l. placed l c.args.slot c.args.place c.args.segment) c.self.view_is); kept = tt }
