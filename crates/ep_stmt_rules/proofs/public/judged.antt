pub mod Fits
pub mod Rounds
