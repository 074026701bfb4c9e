pub mod Pieces
pub mod WriteLines
mod Causing
mod FieldTests
mod FirstWrong
mod Joins
mod Lining
mod Nearness
