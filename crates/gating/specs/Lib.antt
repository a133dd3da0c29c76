pub mod Gating
pub mod MixedGating
pub mod Coarse
