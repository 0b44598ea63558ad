pub mod DiffText
pub mod OtherFields
pub mod Tied
