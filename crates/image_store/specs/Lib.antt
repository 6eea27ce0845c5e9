-- The laws, each file below those that it uses.
pub mod Image
pub mod Covered
pub mod Buffers
pub mod Job
pub mod Recovery
pub mod Mixed
pub mod JobRows
