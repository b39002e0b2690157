mod Ahead
mod Before
mod Checked
mod Classed
mod Complete
mod Completed
mod Ended
mod Ending
mod Kept
mod Passing
pub mod public
mod Reach
mod Sorts
mod Sound
mod Static
