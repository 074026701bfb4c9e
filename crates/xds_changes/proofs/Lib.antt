mod Changing
mod Handings
mod Takings
mod KeptLines
mod LoadSteps
pub mod Pieces
pub mod LineReading
pub mod Numbering
