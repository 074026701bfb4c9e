pub mod Askings
pub mod Weights
pub mod Numbers
pub mod Covering
pub mod Pasts
pub mod Balance
pub mod Parts
pub mod Steps
pub mod Keeping
pub mod InOrder
pub mod Ending
pub mod Telling
pub mod Callings
mod Fingerprints
pub mod Covers
mod Woken
