-- The lemmas that this crate offers to the crates above it; the other files of proofs/ are its own.
-- Knot: at each number of levels, what is read is derived, what is derived is read, and a text has one tree.
-- Like, Looks: a parser looks no further than the token at which it stops, and more levels change only `Nested`.
-- Outcomes: how an outcome of a parser comes about.
-- Refusal: what the outcome of a parser of texts says of the text, and that a text has one tree at any two depths.
pub mod Knot
pub mod Like
pub mod Looks
pub mod Outcomes
pub mod Refusal
