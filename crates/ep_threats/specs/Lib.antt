pub mod Callees
pub mod Inner
pub mod RoutineForms
pub mod Threatened
pub mod Threats
pub mod Variables
