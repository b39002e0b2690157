-- What the proofs of ep_gen_code offer to other crates, all else in proofs/ being private to the crate:
-- how code under construction grows, where it stands, and how jumps ahead get their goals.
pub mod Constants
pub mod Growing
pub mod Landing
pub mod Named
pub mod Placed
pub mod Pushed
pub mod Waiting
