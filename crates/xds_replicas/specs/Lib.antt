pub mod Fitting
pub mod Replies
