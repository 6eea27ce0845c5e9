pub mod Table
pub mod TableLaws
pub mod Chain
pub mod ChainLaws
