pub mod Tests
pub mod Kinds
pub mod Steps
pub mod Passed
