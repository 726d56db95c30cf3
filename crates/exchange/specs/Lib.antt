pub mod Decoding
pub mod Encoding
pub mod Texts
pub mod Words
