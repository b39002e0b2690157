-- What the proofs of ep_fields offer to other crates: steps of readings.
pub mod Readings
