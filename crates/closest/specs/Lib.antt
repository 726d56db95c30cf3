pub mod Closest
pub mod Gaps
pub mod Goals
