pub mod Carried
pub mod Heads
pub mod Questions
pub mod Sent
