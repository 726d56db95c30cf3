mod Choosing
mod Exits
mod Lines
mod Measures
mod Numerals
mod Sizes
mod Written
