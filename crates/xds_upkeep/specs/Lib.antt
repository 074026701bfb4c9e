pub mod Moved
pub mod Lines
pub mod Linting
pub mod Sourcing
