-- What the proofs of ep_values offer to other crates, all else in proofs/ being private to the crate:
-- what holds of bounds, of sets, and of what was done of events.
pub mod Bounds
pub mod Done
pub mod Sets
