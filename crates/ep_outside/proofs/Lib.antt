mod Fronts
mod Taken
mod Updates
