pub mod Ops
pub mod Model
pub mod Lawful
pub mod Tables
