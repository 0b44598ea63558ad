pub mod Digests
pub mod Sizes
pub mod Forms
pub mod Files
