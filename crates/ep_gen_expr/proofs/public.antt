-- What the proofs of ep_gen_expr offer to other crates, all else in proofs/ being private to the crate:
-- what the code of expressions, places and calls does, and what stays as it is beside it.
pub mod Answering
pub mod Calls
pub mod FilledRanges
pub mod Following
pub mod PlaceTypes
pub mod RangeMoves
pub mod SameFields
pub mod Stays
pub mod StructuredValues
pub mod VariantMoves
pub mod WholeStructures
