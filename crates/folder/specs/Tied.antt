-- What serves proofs, tied to the rest by the contract of `save`. Of it only `IsOnTheWay` need be read, which `IsEnding` cites.
pub mod Steps
