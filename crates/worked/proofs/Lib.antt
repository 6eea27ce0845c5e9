pub mod Renamed
pub mod Recovered
pub mod Exchanged
