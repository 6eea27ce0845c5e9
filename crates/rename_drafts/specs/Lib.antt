pub mod PendingRename
pub mod Drafted
