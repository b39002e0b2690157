-- What the proofs of ep_link offer to other crates, all else in proofs/ being private to the crate: that each object
-- stands in the image that objects are linked to.
pub mod Linked
