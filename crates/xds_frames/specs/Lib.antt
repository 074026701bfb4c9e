pub mod Frames
pub mod Decoding
pub mod Lending
pub mod Writing
pub mod Devices
pub mod Reading
pub mod Gathering
