mod Adding
mod Inner
mod OpenedThreats
