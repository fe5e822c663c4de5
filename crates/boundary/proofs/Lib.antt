pub mod Numbered
pub mod Parts
pub mod InDay
pub mod InWords
pub mod OneAnswer
