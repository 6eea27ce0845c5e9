pub mod Result
pub mod ResultLaws
