pub mod SotwMade
mod StatedByName
pub mod Bodies
pub mod DeltaMade
pub mod Stating
mod InPlace
pub mod Sharing
mod NamedRests
