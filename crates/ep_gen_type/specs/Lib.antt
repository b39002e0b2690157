pub mod Ordinals
pub mod TypeCode
