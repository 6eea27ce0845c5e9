pub mod Name
pub mod NameTests
pub mod ClashLaws
pub mod PieceLaws
pub mod FrontLaws
