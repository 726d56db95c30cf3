pub mod Deviations
pub mod Edges
pub mod Weighers
pub mod Weights
pub mod DeviationLaws
