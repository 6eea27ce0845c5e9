pub mod Edited
pub mod Links
pub mod RecountCleared
