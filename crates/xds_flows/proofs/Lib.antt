pub mod Pollings
mod Framing
pub mod Passing
pub mod Sendings
pub mod StreamReadings
pub mod Turns
pub mod Writings
pub mod WorkersReadings
pub mod Tellings
pub mod Mergings
pub mod Unpacking
pub mod Comparing
pub mod Owings
mod WakesCover
mod WantsCover
mod Orderly
