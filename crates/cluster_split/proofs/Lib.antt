pub mod Walking
pub mod Labels
pub mod Ranges
pub mod Placing
pub mod Classes
pub mod Splittings
