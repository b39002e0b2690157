mod Named
mod Reversed
