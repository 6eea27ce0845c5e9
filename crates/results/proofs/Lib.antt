pub mod RecordLaws
pub mod Again
pub mod Owed
pub mod ResultRows
pub mod FilledRows
