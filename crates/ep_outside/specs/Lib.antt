pub mod Answers
pub mod FileTables
pub mod InMemory
pub mod Known
pub mod Remainders
pub mod Schedules
