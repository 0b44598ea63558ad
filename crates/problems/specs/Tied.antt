-- What serves proofs alone.
pub mod ByExtra
pub mod ChoiceTests
pub mod Eligible
pub mod GroupedReleases
pub mod Growing
pub mod NodeEquality
pub mod NodeLaws
pub mod NodeNumbers
pub mod OwnNeeds
pub mod Standing
