pub mod Places
pub mod Steps
pub mod Tracing
pub mod Amply
pub mod Shown
