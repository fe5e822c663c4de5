pub mod Instant
pub mod Calls
pub mod Bench
