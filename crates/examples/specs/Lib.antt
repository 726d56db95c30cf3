pub mod Answers
pub mod Examples
pub mod Steps
