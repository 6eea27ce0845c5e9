pub mod Exchange
pub mod InImage
