pub mod Meaning
pub mod Ranged
