pub mod Answers
pub mod Constants
pub mod Expressions
pub mod Shapes
pub mod StructuredConstants
pub mod StructuredValues
