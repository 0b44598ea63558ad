-- What serves proofs alone. Each file begins with the law that ties it to a definition outside this folder.
pub mod Answers
pub mod Covers
pub mod Implication
pub mod JointPackages
pub mod Kept
pub mod Opposites
pub mod Reach
pub mod Told
