pub mod Units
pub mod Supplies
pub mod Refusals
pub mod Laws
pub mod Least
pub mod Registers
pub mod Exporters
pub mod Faults
