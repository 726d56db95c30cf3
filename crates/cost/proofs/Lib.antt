pub mod PriceLaws
pub mod Values
