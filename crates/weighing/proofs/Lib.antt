pub mod Costs
pub mod EdgeLaws
pub mod EdgeWeights
pub mod Usable
