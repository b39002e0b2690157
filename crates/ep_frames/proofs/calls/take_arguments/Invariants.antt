use Rattle.std.proofs.Common.{◌≡◌, ◌++◌, Some, map, take, drop}
use Rattle.ep_frames.specs.Calls.{operands_in, StartsWith}
use Rattle.ep_frames.proofs.calls.take_arguments.Given as goal

abbrev pub invariant-loop-taken : goal.invariant-loop-taken
invariant-loop-taken l =
    record {
      taken : operands_in l.arguments.items ≡ operands_in l.fn.arguments.items ++ map Some (take l.taken l.fn.stack);
      below : l.stack ≡ drop l.taken l.fn.stack;
      before : StartsWith l.fn.arguments.items l.arguments.items;
    }
