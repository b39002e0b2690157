mod Effects
mod Examples
mod Numbers
pub mod public
mod Ticks
mod TypeEntries
