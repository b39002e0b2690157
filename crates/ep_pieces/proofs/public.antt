-- The lemmas that this crate offers to the crates above it; the other files of proofs/ are its own.
-- PieceLaws: a text has one list of pieces, and the law of gaps.
pub mod PieceLaws
