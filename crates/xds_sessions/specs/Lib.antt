pub mod SotwPolls
pub mod SotwParts
pub mod Rest
pub mod DeltaPolls
pub mod DeltaParts
pub mod Laws
pub mod Wildcards
