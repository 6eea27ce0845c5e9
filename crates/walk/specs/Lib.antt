pub mod Start
pub mod Walk
pub mod Budget
pub mod Ends
pub mod Both
pub mod Answer
pub mod Bench
