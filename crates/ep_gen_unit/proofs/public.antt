-- What the proofs of ep_gen_unit offer to other crates, all else in proofs/ being private to the crate:
-- what runs of a whole program do.
pub mod Programs
