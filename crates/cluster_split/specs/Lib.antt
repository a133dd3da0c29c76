pub mod Walks
pub mod Components
pub mod Leasts
pub mod Grouping
