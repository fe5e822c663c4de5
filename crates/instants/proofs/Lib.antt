pub mod Sizes
pub mod Clocks
pub mod Tests
pub mod OneAnswer
pub mod Wrapped
