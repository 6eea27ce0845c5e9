pub mod Many
pub mod UnusedLaws
pub mod Copied
pub mod FitLaws
pub mod WriteLaws
pub mod Bench
pub mod RowLaws
pub mod AddedLaws
