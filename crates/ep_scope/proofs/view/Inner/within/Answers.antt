use Rattle.std.proofs.Common.{◌∙◌, ap, length}
use Rattle.ep_scope.specs.Layers.{inside_out, records_of}
use Rattle.ep_scope.specs.Records.{open_of}
use Rattle.ep_scope.specs.Scopes.{within, within_all}
use Rattle.ep_scope.proofs.Layers.{inside_out-more, table_grown}
use Rattle.ep_scope.proofs.view.Inner.within.Goals as goal

pub invariant_of-result : goal.invariant_of-result
invariant_of-result c = (
  table_grown c.self.inside.records c.push.new.self c.args.opened c.self.inside.table c.in_ok-table.table _ c.self.invariant.0
      (ap length c.items.ensures) c.in_ok-table.ensures c.in_ok-push.ensures.ok,
  c.self.invariant.1,
)

pub returns : goal.returns
returns c =
    ap (λ l. within_all (inside_out l (records_of c.self.inside.around)) c.self.inside.scopes.now) c.in_ok-push.ensures.ok
    ∙ ap (λ os. within_all os c.self.inside.scopes.now) (inside_out-more c.self.inside.records c.args.opened (records_of c.self.inside.around))
    ∙ ap (within (open_of c.args.opened)) c.self.view_is
