-- What the proofs of ep_object offer to other crates, all else in proofs/ being private to the crate:
-- what holds of runs, of the words of sets, and of elements of lists that change.
pub mod Elements
pub mod Grows
pub mod Limits
pub mod Sets
pub mod SetWords
pub mod Views
