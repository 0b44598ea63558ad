-- What serves proofs alone. Each file begins with the law that ties it to a definition outside this folder.
pub mod Known
pub mod MarkerCode
pub mod MarkerFalls
pub mod MarkerReading
pub mod MarkerSize
pub mod MarkerTokens
pub mod MarkerView
pub mod Names
pub mod Values
