pub mod Asking
pub mod Begins
pub mod Decimals
pub mod Lettered
pub mod Splits
