-- What the proofs of this crate's functions share: facts on plain numbers and lists.
pub mod Integers
pub mod Counting
pub mod Taking
pub mod LowFirst
pub mod Behind
pub mod Storing
pub mod Joining
