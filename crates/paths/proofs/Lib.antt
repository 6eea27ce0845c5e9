pub mod RequestLaws
pub mod GroupLaws
pub mod PermissionLaws
pub mod LookupLaws
pub mod PathLaws
pub mod Plain
pub mod WorkingPathLaws
pub mod FlagLaws
