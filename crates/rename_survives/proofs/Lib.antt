pub mod Way
pub mod Pending
pub mod Behind
pub mod Recovers
pub mod PlanSurvivesProof
pub mod Safe
pub mod SurvivesProof
pub mod PlanSurvivesWhole
