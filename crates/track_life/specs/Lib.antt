pub mod Tracks
pub mod Tables
pub mod Numbers
pub mod HeldNumbers
