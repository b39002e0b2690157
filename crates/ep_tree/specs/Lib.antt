pub mod Folds
pub mod Nesting
pub mod Nodes
pub mod Shapes
