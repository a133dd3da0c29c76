pub mod Hearing
pub mod Spans
pub mod Engines
pub mod Counts
