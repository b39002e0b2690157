pub mod public
mod Lists
mod Flags
mod Chains
mod Naming
mod Placing
mod Queues
mod Rounds
mod Walks
