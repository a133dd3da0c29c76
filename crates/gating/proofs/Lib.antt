pub mod Costs
pub mod Rectangles
