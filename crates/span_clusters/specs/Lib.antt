pub mod Interleavings
pub mod Parts
pub mod Jobs
pub mod Runs
