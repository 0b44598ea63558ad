pub mod KeptVersions
pub mod Retargeting
