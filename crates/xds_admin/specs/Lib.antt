pub mod Routes
pub mod Stored
pub mod Jointly
