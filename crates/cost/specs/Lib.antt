pub mod Bits
pub mod Cost
pub mod Prices
pub mod TwoPart
pub mod BitsLaws
pub mod TwoPartLaws
