mod InitialStates
mod KnownHosts
pub mod public
mod TypeForms
