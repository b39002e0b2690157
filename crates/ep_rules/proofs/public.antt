-- What the proofs of ep_rules offer to other crates, all else in proofs/ being private to the crate:
-- how rules that fail are joined, and that a rule that fails in a part fails in the whole.
pub mod Breaking
pub mod Refusing
