mod Behind
mod Compounds
mod Examples
mod Gathered
mod LabelEnds
mod Nested
mod Printing
pub mod public
mod TagExamples
mod Threatening
