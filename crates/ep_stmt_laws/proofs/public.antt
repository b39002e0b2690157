-- What the proofs of ep_stmt_laws offer to other crates, all else in proofs/ being private to the crate:
-- which auxiliary variables the statements that the rules accept ask for.
pub mod judged
