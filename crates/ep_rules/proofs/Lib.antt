mod Ends
pub mod public
mod Taking
