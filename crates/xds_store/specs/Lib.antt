pub mod Joins
pub mod Numbers
pub mod Reading
pub mod Rows
pub mod Steps
pub mod Tables
