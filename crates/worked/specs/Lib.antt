pub mod Crashed
