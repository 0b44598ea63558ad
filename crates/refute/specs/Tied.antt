-- What serves proofs alone.
pub mod Told
