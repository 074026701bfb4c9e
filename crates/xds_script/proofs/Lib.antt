pub mod Splits
pub mod ShortNumbers
pub mod Wording
pub mod Named
pub mod Wishing
pub mod Scripting
pub mod Behind
