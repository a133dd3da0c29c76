pub mod PlotFields
pub mod ReportFields
pub mod Told
