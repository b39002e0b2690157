pub mod Answers
pub mod Blocks
pub mod Checks
pub mod Declarations
pub mod Functions
pub mod Routines
pub mod Units
