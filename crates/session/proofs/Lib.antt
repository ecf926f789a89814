pub mod Keeping
pub mod Describing
