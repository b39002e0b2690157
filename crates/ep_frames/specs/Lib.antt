pub mod Calls
pub mod Members
pub mod Stacks
