pub mod Certificates
pub mod Checks
pub mod Octets
pub mod Encoding
pub mod Files
pub mod Reading
pub mod Prefixes
