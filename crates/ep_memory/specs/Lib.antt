pub mod Entries
pub mod Stores
