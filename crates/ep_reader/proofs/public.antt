-- The lemmas that this crate offers to the parsers above it; the other files of proofs/ are its own.
-- Begun: a row whose first item was read, and whose other items `closed` reads.
-- Levels: what needs a level inside it, where one is left and where none is, and an error that is handed on.
-- Onto: the items that a row adds to those before it.
-- Outcomes: outcomes that follow one another, and what an outcome under a constructor says of the one below it.
-- RowLoops: a row that a loop of the parser's own reads, one item a turn, as it stands in a description.
-- Shaped: a node with a line, made of what was read by its shape.
-- Turning: a row by the parser that reads one step of it, beside a loop that counts its turns up.
pub mod Begun
pub mod Levels
pub mod Onto
pub mod Outcomes
pub mod RowLoops
pub mod Shaped
pub mod Turning
