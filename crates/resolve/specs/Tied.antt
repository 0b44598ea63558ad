-- What serves proofs alone.
pub mod Building
pub mod Choosing
pub mod Pictured
pub mod Places
pub mod Walking
