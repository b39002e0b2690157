mod judged
pub mod public
mod valid
