pub mod Recover
pub mod Job
pub mod Outcome
pub mod Answers
