pub mod Bytes
pub mod Expected
pub mod Left
pub mod Lexemes
pub mod Spelling
