pub mod Meanings
mod Grammars
mod Places
mod Members
pub mod Lists
mod Firsts
pub mod OneField
pub mod FieldsReadBack
pub mod VersionLemmas
pub mod FieldsWithin
