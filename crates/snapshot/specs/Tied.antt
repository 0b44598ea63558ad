-- What serves proofs alone. Each file begins with the law that ties it to a definition outside this folder.
pub mod Chosen
pub mod Gathering
pub mod Keys
pub mod Meaning
pub mod OrderLaws
pub mod Places
