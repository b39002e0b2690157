pub mod ExprCode
pub mod Growth
pub mod Laws
pub mod Following
