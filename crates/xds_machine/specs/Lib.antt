pub mod Doors
pub mod Meters
pub mod Wiring
pub mod Files
pub mod Bearing
