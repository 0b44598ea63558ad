pub mod SetRefutations
pub mod Grounds
pub mod Tied
