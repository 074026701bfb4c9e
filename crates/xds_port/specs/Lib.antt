pub mod Answers
pub mod Complaints
pub mod Deletions
pub mod Requests
pub mod Verdicts
