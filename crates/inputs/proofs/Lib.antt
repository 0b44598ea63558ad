pub mod ErrorFacts
pub mod TargetFacts
