mod following
mod matching
pub mod public
mod rows
mod Spinning
