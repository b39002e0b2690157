mod Found
mod Layers
mod Opened
mod Parameters
mod Places
mod RuleNumbers
