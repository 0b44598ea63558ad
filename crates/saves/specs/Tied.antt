-- What serves proofs alone. It is tied to the rest by the contracts of `step_once`, `edit_once` and `forget_once`, and need not be read.
pub mod Applying
