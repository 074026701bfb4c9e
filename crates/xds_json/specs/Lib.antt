pub mod Ordered
pub mod Placed
pub mod ReadsTo
pub mod Spelling
pub mod Parts
pub mod WrittenFields
pub mod Versions
