-- What leaves is the least name, and the others keep their places.
use Rattle.std.proofs.Common.{IsSome, refl, sym, subst}
use Rattle.std.proofs.lemmas.Map.Text.{btree_map_updates_str}
use Rattle.ep_order.proofs.queue.Queue.next.Goals as goal

pub returns-in-Some : goal.returns-in-Some
returns-in-Some c =
    let name = c.in-Some.field-0-0.now in (
      name,
      record {
        was = c.in-Some.ensures.value;
        least = λ other second h. c.in-Some.ensures.least (record { ref_ptr = (0, 0); now = other }) (subst IsSome (sym h) refl);
        others = λ other. btree_map_updates_str name c.args.self.now.ready c.pop_first.new.self _ c.in-Some.ensures.updates other;
        waiting = refl;
      },
    )
