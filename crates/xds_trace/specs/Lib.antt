pub mod Making
pub mod Claims
pub mod Telling
pub mod Joined
pub mod Bases
pub mod Sites
pub mod Texts
