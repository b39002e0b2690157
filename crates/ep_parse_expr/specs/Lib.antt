pub mod Called
pub mod Tails
