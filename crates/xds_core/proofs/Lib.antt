pub mod Polling
pub mod FirstDue
pub mod StreamsFitting
pub mod StreamSteps
pub mod StepLaws
pub mod Twins
pub mod Fitting
