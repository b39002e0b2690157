mod Activations
mod Composed
mod Turns
