pub mod Outcome
pub mod RenamePlan
pub mod Called
