pub mod Making
pub mod WrittenOver
pub mod ChangedInPlace
pub mod Stating
pub mod Judging
pub mod Interests
pub mod Opening
