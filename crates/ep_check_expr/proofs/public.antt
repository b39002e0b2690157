-- What the proofs of ep_check_expr offer to other crates, all else in proofs/ being private to the crate:
-- the equations of the nodes of expressions, what every rule keeps, and how rows of judgements are read.
pub mod Accepted
pub mod AnyStructure
pub mod Folds
pub mod Keeping
pub mod Labels
pub mod Nodes
pub mod Plain
pub mod Rows
pub mod Selected
pub mod Written
