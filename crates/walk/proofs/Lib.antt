pub mod WalkLaws
pub mod Bound
pub mod EndLaws
pub mod AnswerLaws
pub mod BothLaws
pub mod BoundStart
