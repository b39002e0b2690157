pub mod Answers
pub mod FrameRows
pub mod Meeting
