-- What serves proofs alone.
pub mod Fields
