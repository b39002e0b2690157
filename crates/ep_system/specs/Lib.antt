pub mod FaultCounts
