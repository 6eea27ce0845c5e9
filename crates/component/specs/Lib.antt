pub mod Step
pub mod Decisions
pub mod State
pub mod Ways
