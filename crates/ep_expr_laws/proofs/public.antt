-- What the proofs of ep_expr_laws offer to other crates, all else in proofs/ being private to the crate:
-- how declarations hold what the scopes declare, and why the forms of names, places and
-- arguments are valid.
pub mod Betweens
pub mod Components
pub mod Leading
pub mod Listed
pub mod Meant
pub mod Passing
pub mod Places
pub mod SameHost
