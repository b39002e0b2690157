-- What the proofs of ep_check_unit offer to other crates, all else in proofs/ being private to the crate:
-- what holds of all denoters that are written.
pub mod Denoters
pub mod Forms
