pub mod Causes
pub mod Plain
