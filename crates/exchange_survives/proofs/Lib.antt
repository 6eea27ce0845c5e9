pub mod Slots
pub mod Recovers
pub mod Safe
pub mod SurvivesProof
