pub mod BitSets
pub mod Members
pub mod RisingItems
pub mod SortedInserts
pub mod SpaceBytes
pub mod Taking
