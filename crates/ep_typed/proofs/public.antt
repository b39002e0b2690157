-- What the proofs of ep_typed offer to other crates, all else in proofs/ being private to the crate:
-- what holds of denoters, of the forms of values and of statements, how designators are counted, what a `with` of several records has, and what a unit has whose stop does nothing.
pub mod Denoters
pub mod DesignatorCounts
pub mod Forms
pub mod Statements
pub mod Units
pub mod Withs
