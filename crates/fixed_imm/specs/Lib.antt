pub mod Values
pub mod Constants
pub mod Bounds
pub mod Mixing
pub mod Prediction
pub mod Correction
pub mod Filter
pub mod Aims
