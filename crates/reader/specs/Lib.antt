pub mod Reading
pub mod Describes
pub mod Heads
pub mod Parsing
pub mod Gates
pub mod Promises
