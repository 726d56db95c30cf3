pub mod Commands
pub mod Makes
pub mod Numbers
pub mod Replies
pub mod Sessions
pub mod Words
