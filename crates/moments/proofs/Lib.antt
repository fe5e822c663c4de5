pub mod Bench
pub mod Stamps
pub mod Limits
pub mod Sums
pub mod Order
pub mod Restating
pub mod Comparing
