pub mod Renamed
pub mod Order
pub mod Flagged
pub mod Job
pub mod Answers
pub mod Alike
pub mod Unflagged
