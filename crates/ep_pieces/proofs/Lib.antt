pub mod public
mod Canonical
mod Comments
mod Fronts
mod Gaps
mod Joints
mod Once
mod Rows
mod Spellings
mod TokenKinds
