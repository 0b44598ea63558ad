-- What serves proofs alone.
pub mod Cases
pub mod ChoiceLaws
