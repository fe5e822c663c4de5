pub mod Boundary
pub mod Utc
pub mod Files
