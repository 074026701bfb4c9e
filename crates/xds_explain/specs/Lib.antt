pub mod Shown
pub mod Sentences
pub mod Looks
pub mod BestLines
pub mod Pictures
pub mod Rows
pub mod Laws
