pub mod Bests
pub mod Lasts
pub mod Named
pub mod Polygons
pub mod Prices
