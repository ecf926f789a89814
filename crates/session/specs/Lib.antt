pub mod Kinds
pub mod Works
pub mod Sessions
pub mod Answers
pub mod Openings
