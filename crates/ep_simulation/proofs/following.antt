pub mod Calling
pub mod Shuffling
pub mod Weights
