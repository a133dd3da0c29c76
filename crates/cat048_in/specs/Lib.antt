pub mod Values
pub mod InRange
pub mod Reports
pub mod Plots
