use Rattle.std.proofs.Common.{◌≡◌, ◌∙◌, Ok, ap, map, subst, sym}
use Rattle.ep_typed.specs.Trees.{elements}
use Rattle.ep_typed.specs.Viewed.{element_of, expr_of}
use Rattle.ep_check_expr.specs.StructuredConstants.{constancy, elements_constancy, joined, structured, AreSettled}
use Rattle.ep_check_expr.proofs.Joining.{joined_none, joined_step, varies_at}
use Rattle.ep_check_expr.proofs.Settled.{constant_settled}
use Rattle.ep_check_expr.proofs.structured_constants.+constancies.Goals as goal

-- a constant that stands as it is is shared
pub constancy-returns-then-are_settled : goal.constancy-returns-then-are_settled
constancy-returns-then-are_settled t c =
    let x = c.in-Structured in
    let all : AreSettled x.given = subst AreSettled (c.items.ensures ∙ c.get.ensures) (c.are_settled.ensures c.if-are_settled.true) in
    let kept : structured x.number (Ok c.in_ok-share-in-Structured.field-0) ≡ structured x.number (Ok x.given) = ap (λ g. structured x.number (Ok g)) c.in_ok-share-in-Structured.ensures in
    kept ∙ sym (ap (λ e. constancy c.args.scopes.now (expr_of e)) x.is ∙ constant_settled x.number x.given all c.args.scopes.now)

pub elements-loop-one-init : goal.elements-loop-one-init
elements-loop-one-init t c =
    let whole = elements_constancy c.args.scopes.now c.args.of (elements (map element_of c.args.all.now)) in
    ap (λ xs. joined (Ok xs) whole) c.new.ensures ∙ joined_none whole

pub elements-loop-one-preserved : goal.elements-loop-one-preserved
elements-loop-one-preserved t c =
    joined_step c.args.scopes.now c.args.of c.args.all.now c.loop-one.one-index c.one-item.result c.loop-one.found c.in_ok-found.found c.in_ok-more.more _ c.loop-one-test.true c.one-item.is c.in_ok-found.ensures c.in_ok-more.ensures c.loop-one.invariant

pub element-returns-else-is_empty : goal.element-returns-else-is_empty
element-returns-else-is_empty t c = varies_at c.args.scopes.now c.args.of c.args.e.now _ _ c.in-AtIndexes.is (rw c.items-in-AtIndexes.ensures at c.if-is_empty.ensures)
