pub mod Paths
pub mod Rows
pub mod Steps
pub mod Theorems
