-- What the proofs of ep_meaning offer to other crates, all else in proofs/ being private to the crate:
-- what holds of valid trees and of the values that they have, that every computation is steady, and what lists have at
-- their places.
pub mod Auxiliaries
pub mod Bares
pub mod Lasting
pub mod Lists
pub mod Steady
pub mod Typed
pub mod ValueKinds
