pub mod Cheapest
pub mod Closest
pub mod Computed
pub mod Facts
pub mod Polygons
