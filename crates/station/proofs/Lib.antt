pub mod Standing
pub mod Counting
pub mod Indices
pub mod Turning
pub mod Members
pub mod Ending
pub mod Dealing
pub mod Publishing
