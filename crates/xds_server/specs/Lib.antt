pub mod Channels
pub mod Servings
