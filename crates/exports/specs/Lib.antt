pub mod Alike
pub mod Conditions
pub mod Joint
pub mod Laws
pub mod NamedTarget
pub mod Questions
pub mod Tied
pub mod WithoutMember
