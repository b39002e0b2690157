pub mod public
mod Calls
mod Spellings
