pub mod Formatted
pub mod Kinds
pub mod Layout
