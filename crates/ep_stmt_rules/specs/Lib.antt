pub mod Answers
pub mod Auxiliaries
pub mod Cases
pub mod Outcomes
pub mod Statements
pub mod Tags
