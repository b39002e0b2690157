mod Counts
mod Fits
mod Texts
