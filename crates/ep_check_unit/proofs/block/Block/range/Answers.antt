use Rattle.std.proofs.Common.{◌∙◌}
use Rattle.std.proofs.lemmas.Result.{err_from_is_err_and}
use Rattle.ep_check_unit.proofs.Subranges.{accepted_same, low_refused, high_refused, host_refused, order_refused, range_accepted}
use Rattle.ep_check_unit.specs.Blocks.{block_of}
use Rattle.ep_check_unit.specs.Declarations.{next_type}
use Rattle.ep_check_unit.proofs.block.Block.range.Goals as goal

pub returns-in_err-least : goal.returns-in_err-least
returns-in_err-least c =
    let p = err_from_is_err_and c.from_residual.result c.from_residual.ensures.1 in
    rw (p.1, p.2) (low_refused c.args.line (block_of c.args.self.now) c.args.low.now c.args.high.now c.in_view.result c.in_view.result c.in_view.ensures c.in_view.ensures c.in_err-least.field-0.0 c.in_err-least.ensures.form)

pub returns-in_err-greatest : goal.returns-in_err-greatest
returns-in_err-greatest c =
    let p = err_from_is_err_and c.from_residual-in_err-greatest.result c.from_residual-in_err-greatest.ensures.1 in
    rw (p.1, p.2)
    (high_refused c.args.line (block_of c.args.self.now) c.args.low.now c.args.high.now c.in_view.result c.in_view-2.result c.in_view.ensures c.in_view-2.ensures c.in_ok-least.least c.in_ok-least.ensures.form c.in_err-greatest.field-0.0 c.in_err-greatest.ensures.form)

pub returns-in_err-host : goal.returns-in_err-host
returns-in_err-host c =
    let p = err_from_is_err_and c.from_residual-in_err-host.result c.from_residual-in_err-host.ensures.1 in
    rw (p.1, p.2)
    (host_refused c.args.line (block_of c.args.self.now) c.args.low.now c.args.high.now c.in_view.result c.in_view-2.result c.in_view.ensures c.in_view-2.ensures c.in_ok-least.least c.in_ok-least.ensures.form c.in_ok-greatest.greatest c.in_ok-greatest.ensures.form c.in_err-host.field-0.0 c.in_err-host.ensures)

pub returns-in_err-ordered : goal.returns-in_err-ordered
returns-in_err-ordered c =
    let p = err_from_is_err_and c.from_residual-in_err-ordered.result c.from_residual-in_err-ordered.ensures.1 in
    rw (p.1, p.2)
    (order_refused c.args.line (block_of c.args.self.now) c.args.low.now c.args.high.now c.in_view.result c.in_view-2.result c.in_view.ensures c.in_view-2.ensures c.in_ok-least.least c.in_ok-least.ensures.form c.in_ok-greatest.greatest c.in_ok-greatest.ensures.form c.in_ok-host.host c.in_ok-host.ensures c.in_err-ordered.field-0.0 c.in_err-ordered.ensures)

pub returns : goal.returns
returns c =
    range_accepted c.args.line (block_of c.args.self.now) c.args.low.now c.args.high.now c.in_view.result c.in_view-2.result c.in_view.ensures c.in_view-2.ensures c.in_ok-least.least c.in_ok-least.ensures.form c.in_ok-greatest.greatest c.in_ok-greatest.ensures.form c.in_ok-host.host c.in_ok-host.ensures c.in_ok-ordered.field-0 c.in_ok-ordered.ensures
    ∙ rw (c.note.ensures, c.are_built.ensures, c.in_ok-denoter.ensures, accepted_same (next_type (block_of c.args.self.now)) c.in_ok-of.of c.in_ok-of.ensures)
