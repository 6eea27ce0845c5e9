pub mod Tallies
pub mod Rounds
