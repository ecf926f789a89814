pub mod After
pub mod Named
pub mod Sizes
pub mod Ascii
