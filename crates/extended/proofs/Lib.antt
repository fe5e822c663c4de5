-- What the proofs of this crate's functions share: facts on plain numbers and lists.
pub mod Twelve
pub mod Image
pub mod Days
pub mod Places
pub mod Coming
pub mod Storing
