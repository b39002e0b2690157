mod Bodies
mod Defined
mod Examples
mod FieldSections
mod Indexes
mod InitialStates
mod Kept
mod Parameters
mod Programs
pub mod public
mod Refusing
mod Rounds
mod Subranges
mod VariantParts
