pub mod Credit
pub mod Growth
pub mod Instructions
pub mod Jumps
pub mod Keys
pub mod Referring
pub mod Tables
