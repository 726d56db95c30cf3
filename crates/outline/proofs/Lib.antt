pub mod Apart
pub mod Kept
pub mod Rising
pub mod Steps
