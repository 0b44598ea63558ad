-- What serves proofs alone.
pub mod SetCases
