pub mod Agreement
pub mod Laws
pub mod Origins
pub mod Public
