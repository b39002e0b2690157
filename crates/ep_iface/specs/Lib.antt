pub mod ConstantTypes
pub mod Formats
pub mod Images
