pub mod Texts
pub mod Cases
pub mod Scripts
