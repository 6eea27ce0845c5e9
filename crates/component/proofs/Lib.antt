pub mod DecisionLaws
pub mod StateLaws
pub mod Splice
pub mod Turns
pub mod WayLaws
