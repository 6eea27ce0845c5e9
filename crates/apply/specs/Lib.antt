pub mod Find
pub mod Apply
pub mod OneRow
