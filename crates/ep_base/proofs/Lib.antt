mod Cases
mod Rests
