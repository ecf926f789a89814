pub mod HalvesOf
pub mod Members
