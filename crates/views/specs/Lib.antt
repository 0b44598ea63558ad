pub mod Checked
pub mod Differences
pub mod Views
pub mod WhyNot
