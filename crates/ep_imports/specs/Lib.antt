pub mod Found
pub mod Offers
pub mod Brought
pub mod Imports
pub mod Sequences
pub mod Tables
pub mod Parts
pub mod Required
