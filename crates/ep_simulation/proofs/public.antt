-- What the proofs of ep_simulation offer to other crates, all else in proofs/ being private to the crate:
-- what each row of the table and each kind of fragment leads to where the machine matches,
-- what stays as it is of what matches, and what is found among joined units.
pub mod Alone
pub mod following
pub mod Joined
pub mod matching
pub mod rows
pub mod Tells
