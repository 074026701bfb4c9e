pub mod Askings
pub mod Making
pub mod Serving
pub mod Turns
