pub mod Folding
pub mod SlotFirst
pub mod Windows
