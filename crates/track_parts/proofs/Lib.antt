pub mod TwoLists
pub mod Picks
pub mod Stepping
pub mod Unread
pub mod Runs
pub mod Renumbered
