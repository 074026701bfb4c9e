pub mod Recordings
pub mod Responses
