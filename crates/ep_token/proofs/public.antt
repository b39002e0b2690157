-- The lemmas that this crate offers to the crates above it; the other files of proofs/ are its own.
-- TokenLaws: a text has one list of tokens, or one place where nothing can be taken, and not both; and what the loop
-- that reads a text has reached.
pub mod TokenLaws
