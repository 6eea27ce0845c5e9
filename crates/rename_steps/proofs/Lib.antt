pub mod KindsLaws
pub mod KindLaws
pub mod StepsLaws
pub mod PassedLaws
