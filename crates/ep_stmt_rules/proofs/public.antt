-- What the proofs of ep_stmt_rules offer to other crates, all else in proofs/ being private to the crate:
-- what is accepted and what is refused where items follow each other.
pub mod judged
