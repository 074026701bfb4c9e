pub mod Subscribing
pub mod Answering
pub mod Lines
pub mod Exchanges
pub mod Ending
pub mod Running
pub mod Turning
