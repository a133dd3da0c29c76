pub mod Drawing
pub mod Full
pub mod Least
pub mod Filing
pub mod Numerals
pub mod Certs
pub mod Bounded
pub mod Loads
