pub mod Joins
pub mod LampLaws
pub mod Lamps
pub mod Results
pub mod Walks
