pub mod WithinLaws
pub mod DecideLaws
pub mod PassesLaws
