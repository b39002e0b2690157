mod Units
mod Walks
pub mod public
