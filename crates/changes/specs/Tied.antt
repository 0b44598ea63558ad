-- What serves proofs alone.
pub mod ExchangedEntries
pub mod Retargeted
pub mod Between
pub mod Carried
pub mod CarriedOver
pub mod Ends
pub mod Outcome
pub mod Nearest
pub mod Only
pub mod SplicedLines
pub mod Whole
