pub mod Keys
pub mod Differences
pub mod References
