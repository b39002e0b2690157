mod Branches
mod BuiltParts
mod Called
mod CaseParts
mod Openings
mod Rows
