mod Examples
mod Levels
pub mod public
