pub mod Results
pub mod Start
pub mod InImage
