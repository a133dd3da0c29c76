pub mod Numbers
pub mod Limits
pub mod Ranges
pub mod Keys
pub mod KeyOrder
pub mod RawPlots
