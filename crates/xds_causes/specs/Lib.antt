pub mod Causes
pub mod Fields
pub mod Likeness
pub mod PlainLines
pub mod Told
pub mod ToldLines
pub mod WriteLines
