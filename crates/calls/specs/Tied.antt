-- What serves proofs alone. Each file begins with the contracts that tie it to a definition outside this folder.
pub mod ReadLines
