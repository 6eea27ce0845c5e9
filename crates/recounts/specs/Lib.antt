pub mod Recount
pub mod RecountLaws
pub mod Stands
