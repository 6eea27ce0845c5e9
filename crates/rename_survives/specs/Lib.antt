pub mod Run
pub mod PlanSurvives
pub mod Survives
