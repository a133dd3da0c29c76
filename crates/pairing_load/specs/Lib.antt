pub mod Problems
pub mod Totals
pub mod Certificates
pub mod PriceFiles
pub mod Words
pub mod Status
pub mod Runs
