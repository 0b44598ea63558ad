pub mod EqualChoices
pub mod Checked
pub mod Within
pub mod Grounded
