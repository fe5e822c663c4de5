pub mod Pairs
pub mod Parts
pub mod Cursors
pub mod Outcomes
pub mod Putting
