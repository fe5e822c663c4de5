pub mod Choosing
pub mod Decoding
pub mod OneAnswer
