pub mod Answering
pub mod Drawing
pub mod Fitting
pub mod Kept
pub mod Narrowing
pub mod Vertices
