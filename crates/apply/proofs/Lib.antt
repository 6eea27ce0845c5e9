pub mod FindLaws
pub mod ApplyLaws
pub mod Laws
pub mod Bench
