mod Apartness
mod Calls
mod Elements
mod Examples
mod Gathering
mod Joining
mod Parts
pub mod public
mod Reading
mod Selectors
mod SetExamples
mod Settled
mod VariantExamples
