pub mod Plan
pub mod Texts
pub mod Entries
pub mod Filled
