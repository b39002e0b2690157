mod ConstantAccesses
mod ConstantForms
mod Constructed
mod Designated
mod FieldPlaces
mod Hosted
mod Indexed
mod Known
mod Lawful
pub mod public
mod SameType
mod SetForms
mod SetsOver
mod Sound
mod Starts
mod StructuredConstants
mod Structures
