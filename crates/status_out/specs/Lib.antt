pub mod RadarLines
pub mod SensorRecords
pub mod ServiceRecords
