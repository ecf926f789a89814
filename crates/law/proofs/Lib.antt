pub mod Places
pub mod Granting
pub mod Changing
pub mod Keeping
pub mod Holding
