pub mod Interests
pub mod SotW
pub mod Delta
pub mod Touched
pub mod Asked
pub mod Touches
pub mod Laws
pub mod Examples
