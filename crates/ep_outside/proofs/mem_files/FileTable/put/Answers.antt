use Rattle.std.proofs.Common.{ap, subst, Some, ◌∙◌}
use Rattle.std.specs.Str.{bytes_eq}
use Rattle.std.specs.Option.{option_map}
use Rattle.std.specs.Ordering.{nat_cmp}
use Rattle.std.specs.Cmp.Lexicographic.{slice_cmp}
use Rattle.std.specs.BTreeMap.{UpdatesBy}
use Rattle.ep_outside.proofs.Updates.{at_bytes, at_inserted, bytes_at-cond}
use Rattle.ep_outside.proofs.mem_files.FileTable.put.Goals as goal

pub returns-clause-ok : goal.returns-clause-ok
returns-clause-ok c =
    let updates = subst (λ bs. UpdatesBy (λ x y. slice_cmp nat_cmp x.items y.items) (λ key. slice_cmp nat_cmp bs key.items) c.args.self.now.bytes c.insert.new.self (Some c.args.bytes)) c.in_ok-key.ensures.items c.in_ok-insert.ensures.updates in
    λ other. ap (option_map (λ bytes. bytes.items)) (at_inserted c.args.name.now c.args.self.now.bytes c.insert.new.self (Some c.args.bytes) updates other) ∙ bytes_at-cond (bytes_eq c.args.name.now other) c.args.bytes (at_bytes c.args.self.now.bytes other)
