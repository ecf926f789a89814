pub mod Faults
pub mod Cubes
