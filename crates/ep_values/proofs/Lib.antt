mod Agreement
pub mod public
mod RunErrors
mod Sizes
