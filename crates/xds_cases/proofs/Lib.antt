pub mod Cutting
pub mod Repeating
pub mod WordsGiven
pub mod CasesRead
pub mod Telling
