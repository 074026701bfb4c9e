pub mod Asked
pub mod Ends
