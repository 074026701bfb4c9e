pub mod Waiting
pub mod Writing
pub mod Reading
pub mod Parcels
pub mod Exchanging
pub mod TwoNodes
pub mod Owing
pub mod WakeLaws
