pub mod TreeLaws
pub mod InodeTests
pub mod InodeFactLaws
