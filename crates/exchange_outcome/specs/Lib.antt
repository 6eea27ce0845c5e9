pub mod Outcome
pub mod ExchangePlan
pub mod Paired
pub mod Slot
