pub mod Instrs
pub mod Laws
pub mod Linking
pub mod Parts
pub mod Placements
pub mod Targets
pub mod Units
