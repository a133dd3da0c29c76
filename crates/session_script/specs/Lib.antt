pub mod Ends
pub mod Screen
pub mod Scripts
pub mod Status
pub mod Steps
pub mod Telling
