pub mod Marks
pub mod Productions
pub mod Styles
pub mod Texts
