use Rattle.std.proofs.Common.{◌≡◌, ◌∷◌, [], ◌++◌, Some, option_map, map, take, rules, sym, ap, ◌∙◌, append_assoc}
use Rattle.std.proofs.lemmas.List.{map-append}
use Rattle.ep_object.specs.Operands.{Operand}
use Rattle.ep_frames.specs.Calls.{operand_of, operands_in}
use Rattle.ep_frames.proofs.CallEntry.{taken_one}
use Rattle.ep_frames.proofs.calls.take_arguments.Goals as goal

pub loop-taken-preserved : goal.loop-taken-preserved
loop-taken-preserved c =
    let h = c.loop-taken.invariant in
    let x : Operand = operand_of c.in-Some.argument in
    let next = taken_one c.loop-taken.taken c.args.stack.now x c.pop_argument.new.self (sym h.below ∙ c.in-Some.ensures) in
    let pushed : c.push.new.self.items ≡ c.loop-taken.arguments.items ++ Some c.in-Some.argument ∷ [] = search rules in
    record {
      taken =
          ap operands_in pushed
          ∙ (map-append (option_map operand_of) c.loop-taken.arguments.items (Some c.in-Some.argument ∷ [])
          ∙ (ap (λ l. l ++ Some x ∷ []) h.taken
          ∙ (append_assoc (operands_in c.args.arguments.now.items) (map (λ (o : Operand). Some o) (take c.loop-taken.taken c.args.stack.now)) (Some x ∷ [])
          ∙ ap (λ l. operands_in c.args.arguments.now.items ++ l)
          (sym (ap (map (λ (o : Operand). Some o)) next.0 ∙ map-append (λ (o : Operand). Some o) (take c.loop-taken.taken c.args.stack.now) (x ∷ []))))));
      below = sym next.1;
      before = (
        h.before.0 ++ Some c.in-Some.argument ∷ [],
        pushed ∙ (ap (λ l. l ++ Some c.in-Some.argument ∷ []) h.before.1 ∙ append_assoc c.args.arguments.now.items h.before.0 (Some c.in-Some.argument ∷ [])),
      );
    }
