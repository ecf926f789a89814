pub mod Kinds
pub mod Numbers
pub mod JobLines
pub mod Reading
