use Rattle.std.proofs.Common.{rules, ◌≡◌, IsTrue, is_some, Some, length, option_map, reverse, sym, ap, ◌∙◌, subst}
use Rattle.ep_frames.specs.Calls.{first, argument_of, without}
use Rattle.ep_frames.proofs.CallFrames.{taken_view, taken_left}
use Rattle.ep_frames.proofs.calls.Calls.take.Goals as goal

pub returns-clause-taken : goal.returns-clause-taken
returns-clause-taken c =
    let s = c.self.inside in
    let found : first (reverse s.calls.items) ≡ Some c.in-Some.call = search rules in
    let there = subst (λ l. IsTrue (is_some (argument_of l c.args.number))) (sym c.self.view_is) c.requires in
    ap (option_map _) c.take.ensures.value ∙ (taken_view s.slots.items s.arguments.items s.made.items (reverse s.calls.items) c.in-Some.call (length s.slots.items) c.args.number found c.self.invariant there c.index_mut.result.now c.index_mut.ensures.value
    ∙ ap (λ l. argument_of l c.args.number) c.self.view_is)

pub returns-clause-left : goal.returns-clause-left
returns-clause-left c =
    let s = c.self.inside in
    let found : first (reverse s.calls.items) ≡ Some c.in-Some.call = search rules in
    let there = subst (λ l. IsTrue (is_some (argument_of l c.args.number))) (sym c.self.view_is) c.requires in
    rw c.take.ensures.after (taken_left s.slots.items s.arguments.items s.made.items (reverse s.calls.items) c.in-Some.call (length s.slots.items) c.args.number found c.self.invariant there
    ∙ ap (λ l. without l c.args.number) c.self.view_is)
