pub mod FlagLaws
pub mod Outs
pub mod Bounds
pub mod CaseLaws
pub mod Known
pub mod WalkedLaws
pub mod AlikeLaws
pub mod UnflaggedLaws
