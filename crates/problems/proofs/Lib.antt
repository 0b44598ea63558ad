pub mod Admitting
pub mod Candidates
pub mod ChoiceTests
pub mod Growing
pub mod Closing
pub mod Deciding
pub mod Eligible
pub mod EqualNodes
pub mod Equals
pub mod KeepingAll
pub mod NumbersFound
pub mod NodesMet
pub mod OwnNeeds
pub mod WalkedLists
pub mod Wants
mod Places
mod Merging
mod ListedPlaces
mod Grouping
mod NamedPlaces
