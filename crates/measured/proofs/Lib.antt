pub mod Asked
pub mod OneAnswer
