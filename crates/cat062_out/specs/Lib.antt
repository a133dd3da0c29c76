pub mod Errors
pub mod Tracks
pub mod TrackRecords
pub mod Profile
pub mod Reading
pub mod Answers
