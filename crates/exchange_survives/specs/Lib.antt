pub mod Run
pub mod Survives
