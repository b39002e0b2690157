mod Keyed
mod SameReferences
pub mod public
