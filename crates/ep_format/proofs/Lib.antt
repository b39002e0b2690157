mod Examples
mod Formatted
mod kinds
mod Lines
