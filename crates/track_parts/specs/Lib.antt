pub mod Members
pub mod Tracking
pub mod Woven
pub mod Laws
pub mod Numbered
