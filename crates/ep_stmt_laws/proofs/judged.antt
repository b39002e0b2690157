pub mod Alike
pub mod Assigned
pub mod Reached
pub mod Simple
