pub mod Right
pub mod Runs
pub mod Traced
pub mod Ample
