mod Copying
pub mod Faulting
pub mod Known
pub mod Places
pub mod Touching
