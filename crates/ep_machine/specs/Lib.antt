pub mod Answers
pub mod Machines
pub mod Outputs
pub mod Pairs
pub mod Turns
pub mod Views
