mod CallEntry
mod CallFrames
mod Kept
mod SetTops
mod Tops
