-- A loop over items that a definition takes one after another: the item that comes next, and what is built of them.
pub use Rattle.ep_check_expr.proofs.public.Rows.{left-cons as next_item, or-first as first_built, or-second as rest_of, next-built as next_built, rest-built as rest_built}
