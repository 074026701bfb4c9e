pub mod Fronts
pub mod DeviceWriting
pub mod Apart
pub mod Readings
pub mod Covering
pub mod Standing
pub mod Gatherings
