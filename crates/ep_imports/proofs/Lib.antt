mod Finding
mod Listing
mod Offering
mod Sequencing
