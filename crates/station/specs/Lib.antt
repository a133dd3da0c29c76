pub mod Newest
pub mod Shared
pub mod Added
pub mod Tokens
pub mod Turns
pub mod Tests
