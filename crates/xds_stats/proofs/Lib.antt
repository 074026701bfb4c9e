mod Counting
pub mod Paging
mod Sizing
