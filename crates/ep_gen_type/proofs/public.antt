-- What the proofs of ep_gen_type offer to other crates, all else in proofs/ being private to the crate:
-- what the code of a type does.
pub mod Elaborating
