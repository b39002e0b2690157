use Rattle.std.proofs.Common.{◌≡◌, if◌then◌else◌, ℕ, ◌+◌, ◌-◌, ◌∷◌, [], ◌++◌, None, Some, length, map, replicate, take, rules, sym, ◌∙◌, append-nil}
use Rattle.ep_frames.specs.Calls.{operands_in}
use Rattle.ep_frames.proofs.CallEntry.{still_below, still_there, resized, Entered, entered_if}
use Rattle.ep_frames.proofs.calls.Calls.enter.Goals as goal

pub invariant_of-self : goal.invariant_of-self
invariant_of-self c =
    let s = c.self.inside in
    still_below s.slots.items s.slots.items s.arguments.items c.take_arguments.new.arguments.items s.made.items s.calls.items c.self.invariant ([], sym (append-nil s.slots.items)) c.take_arguments.ensures.before

pub returns-then-not-take_arguments-clause-kept : goal.returns-then-not-take_arguments-clause-kept
returns-then-not-take_arguments-clause-kept c =
    let s = c.self.inside in
    still_there s.slots.items s.slots.items s.arguments.items c.take_arguments.new.arguments.items s.made.items s.calls.items c.self.invariant ([], sym (append-nil s.slots.items)) c.take_arguments.ensures.before ∙ c.self.view_is

pub invariant_of-self-then-is_err : goal.invariant_of-self-then-is_err
invariant_of-self-then-is_err c =
    let s = c.self.inside in
    let same : c.resize.new.self.items ≡ s.slots.items = search rules in
    rw same (still_below s.slots.items s.slots.items s.arguments.items c.take_arguments.new.arguments.items s.made.items s.calls.items c.self.invariant ([], sym (append-nil s.slots.items)) c.take_arguments.ensures.before)

pub returns-then-is_err-clause-kept : goal.returns-then-is_err-clause-kept
returns-then-is_err-clause-kept c =
    let s = c.self.inside in
    let same : c.resize.new.self.items ≡ s.slots.items = search rules in
    rw same (still_there s.slots.items s.slots.items s.arguments.items c.take_arguments.new.arguments.items s.made.items s.calls.items c.self.invariant ([], sym (append-nil s.slots.items)) c.take_arguments.ensures.before ∙ c.self.view_is)

grown : (c : goal.After-is_ok) → c.resize.new.self.items ≡ c.self.inside.slots.items ++ replicate c.args.routine.slots None
grown c =
    let s = c.self.inside in
    let n : ℕ = c.len.result in
    let k : ℕ = c.args.routine.slots in
    let size : n ≡ length s.slots.items = search rules in
    let longer : c.resize.new.self.items ≡ take (n + k) s.slots.items ++ replicate (n + k - length s.slots.items) None = search rules in
    longer ∙ resized n k s.slots.items None size

entered : (c : goal.After-is_ok) → Entered c.self.inside.slots.items c.resize.new.self.items c.self.inside.arguments.items c.take_arguments.new.arguments.items c.self.inside.made.items c.self.inside.calls.items c.args.number c.args.routine c.args.parent c.args.back c.args.stack.now c.is_ok.result c.push.new.self.items
entered c =
    let s = c.self.inside in
    let n : c.len.result ≡ length s.slots.items = search rules in
    let a : c.len-2.result ≡ length s.arguments.items = search rules in
    let m : c.len-3.result ≡ length s.made.items = search rules in
    let new_arguments : operands_in c.take_arguments.new.arguments.items ≡ operands_in s.arguments.items ++ map Some (take c.args.routine.arguments c.args.stack.now) = search rules in
    let pushed : c.push.new.self.items ≡ (if c.is_ok.result then s.calls.items ++ record { routine = c.args.number; parent = c.args.parent; back = c.args.back; slots_from = c.len.result; slots = c.args.routine.slots; arguments_from = c.len-2.result; arguments = c.args.routine.arguments; made_from = c.len-3.result } ∷ [] else s.calls.items) = search rules in
    entered_if s.slots.items c.resize.new.self.items s.arguments.items c.take_arguments.new.arguments.items s.made.items s.calls.items c.args.number c.args.routine c.args.parent c.args.back c.args.stack.now c.self.invariant (grown c) c.take_arguments.ensures.before new_arguments c.requires c.is_ok.result c.push.new.self.items (rw (n, a, m) at pushed)

pub invariant_of-self-2 : goal.invariant_of-self-2
invariant_of-self-2 c = (entered c).0

pub returns-clause-entered : goal.returns-clause-entered
returns-clause-entered c = rw (sym c.self.view_is) (entered c).1

pub returns-clause-kept : goal.returns-clause-kept
returns-clause-kept c = rw (sym c.self.view_is) (entered c).2
