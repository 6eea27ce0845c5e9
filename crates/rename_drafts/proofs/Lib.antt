pub mod Fit
pub mod ClearedLaws
pub mod FilledLaws
