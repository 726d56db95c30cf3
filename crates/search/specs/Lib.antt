pub mod Best
pub mod Cheapest
pub mod Rules
