pub mod Assignments
pub mod Cases
pub mod Loops
pub mod Passing
pub mod Sound
pub mod Statements
pub mod Withs
