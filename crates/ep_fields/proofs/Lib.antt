mod Names
pub mod public
mod Spelled
