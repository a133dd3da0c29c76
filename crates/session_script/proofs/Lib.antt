pub mod Bindings
pub mod Coming
pub mod Following
pub mod Holding
pub mod OneStep
pub mod Reaching
pub mod Runs
pub mod ToldLines
