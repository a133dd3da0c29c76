pub mod Telling
pub mod Following
pub mod Afresh
pub mod Closing
