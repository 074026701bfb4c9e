pub mod Posts
pub mod Replies
pub mod Seen
pub mod Posted
