pub mod Shown
pub mod Played
pub mod Traced
