pub mod JobLaws
pub mod Bounds
pub mod OutcomeLaws
pub mod Outs
pub mod FilledOuts
