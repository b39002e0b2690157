mod Appended
mod Named
mod Ordered
mod Others
mod Placed
pub mod public
