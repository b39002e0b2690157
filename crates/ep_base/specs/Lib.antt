pub mod formers
pub mod Identifiers
