pub mod Tries
pub mod Entries
pub mod Folders
pub mod Transitions
pub mod Searching
pub mod Covering
