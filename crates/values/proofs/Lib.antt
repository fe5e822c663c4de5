pub mod OneAnswer
pub mod Writes
