pub mod Case
pub mod Answered
pub mod CaseIn
pub mod Within
pub mod Rules
pub mod Decide
pub mod Passes
