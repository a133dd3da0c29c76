pub mod Newton
pub mod Powers
pub mod RawPlotFields
pub mod RawPlotOrder
pub mod Roots
pub mod Sizes
