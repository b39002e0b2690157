pub mod Built
pub mod Forms
