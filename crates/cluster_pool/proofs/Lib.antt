pub mod Gathered
pub mod Halves
pub mod RisingPairs
pub mod TakenOut
pub mod Ways
pub mod WholeRuns
