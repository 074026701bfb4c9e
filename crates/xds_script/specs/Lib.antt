pub mod Happenings
pub mod ModelSeen
pub mod Lines
pub mod Words
pub mod Commands
pub mod Scripts
