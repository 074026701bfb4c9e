pub mod Relays
pub mod Ends
pub mod Parts
pub mod OutboxLaws
pub mod Merges
pub mod Rounds
pub mod Laws
