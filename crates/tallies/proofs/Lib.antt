pub mod TalliesLaws
pub mod RoundsLaws
pub mod TopsLaws
