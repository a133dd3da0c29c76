pub mod Faults
pub mod FileHost
pub mod Host
pub mod MemHost
pub mod MemHostLaws
pub mod Places
pub mod Store
pub mod Touching
